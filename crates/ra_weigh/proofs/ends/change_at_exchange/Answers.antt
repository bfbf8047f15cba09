-- The two machines are all ends.
use Rattle.std.proofs.Common.{arith}
use Rattle.ra_weigh.proofs.MoveLemmas.{from_known, to_known}
use Rattle.ra_weigh.proofs.ExchangeLaws.{first_read, second_read, cost_exchanged}
use Rattle.ra_weigh.proofs.ends.change_at_exchange.Goals as goal

pub cost_exchanged-first-requires-clause-machine : goal.cost_exchanged-first-requires-clause-machine
cost_exchanged-first-requires-clause-machine c = grind (arith, from_known)

pub cost_exchanged-first-requires-clause-exchanged : goal.cost_exchanged-first-requires-clause-exchanged
cost_exchanged-first-requires-clause-exchanged c = grind (arith, first_read)

pub cost_exchanged-second-requires-clause-machine : goal.cost_exchanged-second-requires-clause-machine
cost_exchanged-second-requires-clause-machine c = grind (arith, to_known)

pub cost_exchanged-second-requires-clause-exchanged : goal.cost_exchanged-second-requires-clause-exchanged
cost_exchanged-second-requires-clause-exchanged c = grind (arith, second_read)

pub cost_now-requires : goal.cost_now-requires
cost_now-requires c = grind (arith, from_known)

pub cost_now-requires-2 : goal.cost_now-requires-2
cost_now-requires-2 c = grind (arith, to_known)

pub returns : goal.returns
returns c = grind (arith, cost_exchanged)
