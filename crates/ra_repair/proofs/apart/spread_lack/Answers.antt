-- What the counters say of the kept assignment.
use Rattle.std.proofs.Common.{arith}
use Rattle.ra_repair.specs.Penalty.{spread_lack}
use Rattle.ra_repair.proofs.apart.spread_lack.Goals as goal

pub returns-clause-value : goal.returns-clause-value
unfolding spread_lack
returns-clause-value c =
    omega (
      arith,
      c.saturating_sub.ensures,
      c.from.ensures,
      c.from-wanted.ensures,
      c.spread_min.ensures,
      c.locations.ensures.count _ _ _ c.requires.stands.cells,
    )
