-- What the counters say of the kept assignment.
use Rattle.std.proofs.Common.{arith}
use Rattle.ra_repair.specs.Penalty.{crowd_on}
use Rattle.ra_repair.proofs.apart.crowd_on.Goals as goal

pub returns-clause-value : goal.returns-clause-value
unfolding crowd_on
returns-clause-value c =
    omega (arith, c.saturating_sub.ensures, c.from.ensures, c.on_machine.ensures.count _ _ _ c.requires.stands.cells)
