use Rattle.std.proofs.Common.{arith}
use Rattle.ra_world.proofs.RequiredLaws.{process_read}
use Rattle.ra_weigh.proofs.MoveLemmas.{process_known, from_known, from_read}
use Rattle.ra_weigh.proofs.ChangeLaws.{place_gone}
use Rattle.ra_weigh.proofs.ways.cost_left.Goals as goal

pub place_cost-cost-requires-clause-process : goal.place_cost-cost-requires-clause-process
place_cost-cost-requires-clause-process c = grind (arith, process_known)

pub place_cost-cost-requires-clause-machine : goal.place_cost-cost-requires-clause-machine
place_cost-cost-requires-clause-machine c = grind (arith, from_known)

pub loop-j-preserved : goal.loop-j-preserved
loop-j-preserved c = grind (arith, place_gone, process_read, from_read)
