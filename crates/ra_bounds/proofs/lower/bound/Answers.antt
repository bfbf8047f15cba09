-- The two parts are those of the bound, which no feasible assignment costs less than.
use Rattle.std.proofs.Common.{arith}
use Rattle.ra_bounds.proofs.CostLemmas.{none_costs_less}
use Rattle.ra_bounds.specs.Bounds.{bound_of}
use Rattle.ra_bounds.proofs.lower.bound.Goals as goal

pub returns-clause-below : goal.returns-clause-below
unfolding bound_of
returns-clause-below c = λ a0 a fits feasible.
    omega (
      arith,
      c.load_bound-load.ensures.value,
      c.balance_bound-balance.ensures.value,
      (none_costs_less c.args.inst.now.tables a0 a c.args.inst.now.well_formed fits feasible).total,
    )
