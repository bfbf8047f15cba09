-- The two parts are those of the bound, which no feasible assignment costs less than.
use Rattle.std.proofs.Common.{arith, List}
use Rattle.ra_base.specs.declared.ids.Machine.{Machine}
use Rattle.ra_bounds.specs.PinnedBounds.{pinned_bound_of}
use Rattle.ra_bounds.proofs.PinnedLemmas.{none_costs_less_pinned, pinned_is_at_least, bound_made}
use Rattle.ra_bounds.proofs.pinned.pinned_bound.Goals as goal

pub returns-clause-value : goal.returns-clause-value
returns-clause-value c = λ (a0 : List Machine) stand.
    bound_made c.args.inst.now.tables a0 c.pinned_load_bound-load.result c.balance_bound-balance.result
    (c.pinned_load_bound-load.ensures.value a0 stand) c.balance_bound-balance.ensures.value

pub returns-clause-at_least : goal.returns-clause-at_least
unfolding pinned_bound_of
returns-clause-at_least c =
    omega (
      arith,
      c.pinned_load_bound-load.ensures.value c.requires.pins.a0 c.requires.pins.stand,
      c.balance_bound-balance.ensures.value,
      pinned_is_at_least c.args.inst.now.tables c.requires.pins.a0,
    )

pub returns-clause-below : goal.returns-clause-below
unfolding pinned_bound_of
returns-clause-below c = λ (a0 : List Machine) (a : List Machine) stand fits feasible.
    omega (
      arith,
      c.pinned_load_bound-load.ensures.value a0 stand,
      c.balance_bound-balance.ensures.value,
      (none_costs_less_pinned c.args.inst.now.tables a0 a c.args.inst.now.well_formed fits feasible).total,
    )
