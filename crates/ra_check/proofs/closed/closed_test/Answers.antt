-- The code's tests are those of the definition.
use Rattle.std.proofs.Common.{◌∙◌, sym}
use Rattle.ra_check.proofs.ClosedLaws.{stays_there}
use Rattle.ra_check.proofs.closed.closed_test.Goals as goal
use Rattle.std.proofs.lemmas.Bool.{cond-true, and_from, cond-false, and_left}
use Rattle.ra_model.specs.Numbers.{closed_at}
use Rattle.ra_model.specs.Assignments.{machine_at}
use Rattle.ra_model.specs.Broken.{closed_test, cause_if}
use Rattle.ra_check.proofs.closed.closed_test.Goals.{else-closed-via-then-closed+else-ne, else-closed-via-else-closed}

pub returns-then-ne : goal.returns-then-ne
unfolding closed_test cause_if
returns-then-ne c = rw c.machine_of-at.ensures (sym (cond-true _ _ _
    (and_from (closed_at c.args.inst.now.tables (machine_at c.args.a.now.items c.args.p.0)) _
    (rw c.machine_of-at.ensures at (sym c.closed.ensures
    ∙ c.if-closed.true)) (rw (c.machine_of.ensures, c.machine_of-at.ensures) at (sym c.ne.ensures ∙ c.if-ne.true)))))

pub returns-else-closed : goal.returns-else-closed
unfolding closed_test cause_if
returns-else-closed c = elim c.else-closed.branch [
  | else-closed-via-then-closed+else-ne w ↦ stays_there c.args.inst.now.tables c.args.a0.now.items c.args.a.now.items
      c.args.p.0 w.machine_of.ensures c.machine_of-at.ensures
      (sym w.ne.ensures ∙ w.if-ne.false)
  | else-closed-via-else-closed w ↦ sym (cond-false _ _ _ (and_left (closed_at c.args.inst.now.tables
      (machine_at c.args.a.now.items c.args.p.0)) _ (rw c.machine_of-at.ensures at (sym c.closed.ensures
      ∙ w.if-closed.false))))
]
