-- The move breaks nothing.
use Rattle.std.proofs.Common.{arith}
use Rattle.ra_plan.proofs.Weighed.{move_of, processes_known, reads_few}
use Rattle.ra_plan.proofs.planning.weighing.Goals as goal

pub requirements-requires : goal.requirements-requires
requirements-requires g c =
    rw c.instance.ensures.value
    (processes_known _ _ (move_of _ _ c.requires.offered (c.requires.free c.if-not-free.false)))

pub changed_by-requires-clause-moves : goal.changed_by-requires-clause-moves
changed_by-requires-clause-moves g c = move_of _ _ c.requires.offered (c.requires.free c.if-not-free.false)

pub changed_by-requires-clause-required : goal.changed_by-requires-clause-required
changed_by-requires-clause-required g c = rw c.instance.ensures.value at c.requirements.ensures.required

pub changed_by-requires-clause-unbroken : goal.changed_by-requires-clause-unbroken
changed_by-requires-clause-unbroken g c = c.requires.free c.if-not-free.false

pub returns-clause-counted : goal.returns-clause-counted
returns-clause-counted g c =
    let read = rw c.instance.ensures.value at c.requirements.ensures.counted in
    omega (arith, read, reads_few _ _ (move_of _ _ c.requires.offered (c.requires.free c.if-not-free.false)))
