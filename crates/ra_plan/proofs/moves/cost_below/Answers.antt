-- Each test that fails says that there is no cost below the bound.
use Rattle.std.proofs.Common.{refl, sym, ◌∙◌}
use Rattle.ra_plan.proofs.Below.{none_below, some_below, unfit_below}
use Rattle.ra_plan.proofs.Weighed.{flawed, flawless, flawless_move, processes_known}
use Rattle.ra_plan.proofs.moves.cost_below.Goals as goal

pub change_of_ways-ways-requires : goal.change_of_ways-ways-requires
change_of_ways-ways-requires g c = flawless_move _ _ _ c.requires.offered c.in_default.ensures

pub is_dear_by_ways-requires-clause-moves : goal.is_dear_by_ways-requires-clause-moves
is_dear_by_ways-requires-clause-moves g c = flawless_move _ _ _ c.requires.offered c.in_default.ensures

pub requirements-requires : goal.requirements-requires
requirements-requires g c =
    rw c.instance.ensures.value (processes_known _ _ (flawless_move _ _ _ c.requires.offered c.in_default.ensures))

pub cost_after_move-requires-clause-moves : goal.cost_after_move-requires-clause-moves
cost_after_move-requires-clause-moves g c = flawless_move _ _ _ c.requires.offered c.in_default.ensures

pub cost_after_move-requires-clause-required : goal.cost_after_move-requires-clause-required
cost_after_move-requires-clause-required g c = rw c.instance.ensures.value at c.requirements.ensures.required

pub is_unbroken-requires-clause-moves : goal.is_unbroken-requires-clause-moves
is_unbroken-requires-clause-moves g c = flawless_move _ _ _ c.requires.offered c.in_default.ensures

pub is_unbroken-requires-clause-required : goal.is_unbroken-requires-clause-required
is_unbroken-requires-clause-required g c = rw c.instance.ensures.value at c.requirements.ensures.required

pub returns-in-Some-clause-below : goal.returns-in-Some-clause-below
returns-in-Some-clause-below g c = none_below _ _ _ (λ none. absurd (cc (none, flawed _ _ _ c.in-Some.ensures)))

pub returns-then-is_dear_by_ways-clause-below : goal.returns-then-is_dear_by_ways-clause-below
returns-then-is_dear_by_ways-clause-below g c =
    none_below c.args.world.now c.args.mv.now.steps c.args.bound
    (λ none. c.is_dear_by_ways.ensures c.if-is_dear_by_ways.true)

pub returns-then-not-is_unbroken-clause-below : goal.returns-then-not-is_unbroken-clause-below
returns-then-not-is_unbroken-clause-below g c =
    unfit_below c.args.world.now c.args.mv.now.steps c.args.bound c.is_unbroken.ensures
    c.if-not-is_unbroken.true (λ none. sym (flawless _ _ c.in_default.ensures) ∙ none)

pub returns-clause-below : goal.returns-clause-below
returns-clause-below g c = some_below c.args.world.now c.args.mv.now.steps c.args.bound c.in_ok-cost.cost
    (flawless _ _ c.in_default.ensures ∙ c.is_unbroken.ensures.0 c.if-not-is_unbroken.false)
    (c.in_ok-cost.ensures.is _ refl) (c.in_ok-cost.ensures.low _ refl)
