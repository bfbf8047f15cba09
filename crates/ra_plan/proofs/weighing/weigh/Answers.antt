use Rattle.std.proofs.Common.{sym, ◌∙◌, arith}
use Rattle.ra_moves.proofs.Settles.{bare_is}
use Rattle.ra_plan.proofs.Weighed.{flawed, flawless, flawless_move, processes_known, reads_few}
use Rattle.ra_plan.proofs.weighing.weigh.Goals as goal

pub requirements-requires : goal.requirements-requires
requirements-requires g c =
    rw c.instance.ensures.value (processes_known _ _ (flawless_move _ _ _ c.requires c.in_default.ensures))

pub first_broken-requires-clause-moves : goal.first_broken-requires-clause-moves
first_broken-requires-clause-moves g c = flawless_move _ _ _ c.requires c.in_default.ensures

pub first_broken-requires-clause-required : goal.first_broken-requires-clause-required
first_broken-requires-clause-required g c = rw c.instance.ensures.value at c.requirements.ensures.required

pub changed_by-requires-clause-moves : goal.changed_by-requires-clause-moves
changed_by-requires-clause-moves g c = flawless_move _ _ _ c.requires c.in_default.ensures

pub changed_by-requires-clause-required : goal.changed_by-requires-clause-required
changed_by-requires-clause-required g c = rw c.instance.ensures.value at c.requirements.ensures.required

pub changed_by-requires-clause-unbroken : goal.changed_by-requires-clause-unbroken
changed_by-requires-clause-unbroken g c =
    flawless _ _ c.in_default.ensures ∙ sym c.first_broken.ensures ∙ c.in-None.is

pub returns-in-Some-clause-value : goal.returns-in-Some-clause-value
returns-in-Some-clause-value g c = c.bare.ensures ∙ sym (bare_is _ _ _ (flawed _ _ _ c.in-Some.ensures))

pub returns-in-Some-first_broken-clause-value : goal.returns-in-Some-first_broken-clause-value
returns-in-Some-first_broken-clause-value g c = c.bare-in-Some-first_broken.ensures
    ∙ sym (bare_is _ _ _ (flawless _ _ c.in_default.ensures ∙ sym c.first_broken.ensures
    ∙ c.in-Some-first_broken.is))

pub returns-in-Some-first_broken-clause-counted : goal.returns-in-Some-first_broken-clause-counted
returns-in-Some-first_broken-clause-counted g c =
    let read = rw c.instance.ensures.value at c.requirements.ensures.counted in
    omega (arith, read, reads_few _ _ (flawless_move _ _ _ c.requires c.in_default.ensures))

pub returns-in-None-clause-counted : goal.returns-in-None-clause-counted
returns-in-None-clause-counted g c =
    let read = rw c.instance.ensures.value at c.requirements.ensures.counted in
    omega (arith, read, reads_few _ _ (flawless_move _ _ _ c.requires c.in_default.ensures))
