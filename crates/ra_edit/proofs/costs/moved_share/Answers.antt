-- A process that stays adds nothing, and one that has moved its cost.
use Rattle.std.proofs.lemmas.Grind.{common_steps}
use Rattle.std.proofs.Common.{arith, eq-eqb}
use Rattle.ra_edit.proofs.SoundLaws.{initial_read, current_read}
use Rattle.ra_edit.proofs.ScanLaws.{cost_told, cost_moves}
use Rattle.ra_model.specs.Costs.{process_share}
use Rattle.ra_edit.proofs.costs.moved_share.Goals as goal

pub machine_of-requires : goal.machine_of-requires
machine_of-requires c = current_read c.requires.sound c.requires.process

pub machine_of-requires-2 : goal.machine_of-requires-2
machine_of-requires-2 c = initial_read c.requires.sound c.requires.process

pub returns-then-machine_of : goal.returns-then-machine_of
unfolding process_share
returns-then-machine_of c = grind (arith, common_steps, eq-eqb)

pub returns : goal.returns
returns c = grind (arith, common_steps, cost_moves, cost_told)
