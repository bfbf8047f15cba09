-- What the row has of the resource.
use Rattle.std.proofs.Common.{arith}
use Rattle.ra_model.specs.Costs.{available}
use Rattle.ra_shift.proofs.filter.left_of.Goals as goal

pub returns-clause-value : goal.returns-clause-value
unfolding available
returns-clause-value c =
    λ a row. omega (
      arith,
      row.each c.args.r.0 c.requires.resource,
      c.capacity.ensures,
      c.from.ensures,
      c.saturating_sub.ensures,
    )
