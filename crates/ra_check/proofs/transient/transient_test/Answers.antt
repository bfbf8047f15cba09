-- The number read is the transient use, and the code's tests are those of the definition.
use Rattle.std.proofs.Common.{◌≡◌, ◌∙◌, sym, List, arith}
use Rattle.ra_base.specs.declared.ids.Machine.{Machine}
use Rattle.ra_base.specs.Tables.{cell}
use Rattle.ra_model.specs.Numbers.{resource_count, transient_at}
use Rattle.ra_check.proofs.TransientLaws.{over_transient, within_transient}
use Rattle.ra_check.proofs.transient.transient_test.Goals as goal
use Rattle.ra_check.proofs.transient.transient_test.Goals.{else-transient-via-then-transient+else-from-used}
use Rattle.ra_check.proofs.transient.transient_test.Goals.{else-transient-via-else-transient}
use Rattle.std.proofs.lemmas.Bool.{cond-false, and_left}
use Rattle.ra_model.specs.Broken.{transient_test, cause_if}
use Rattle.ra_model.specs.Usage.{transient_of}

pub returns-then-from-used : goal.returns-then-from-used
unfolding transient_of
returns-then-from-used c = λ (a0 : List Machine) (a : List Machine) sums.
    let i = c.args.inst.now.tables in
    let read : c.read_cell-used.result ≡ cell (resource_count i) c.args.used.now.items c.args.m.0 c.args.r.0 =
    rw (← c.resources.ensures) c.read_cell-used.ensures in
    over_transient i a0 a c.args.m.0 c.args.r.0
    (read ∙ sums.each c.args.m.0 c.args.r.0 c.requires.resource)
    c.capacity-cap.ensures (sym c.transient.ensures ∙ c.if-transient.true) (omega arith)

pub returns-else-transient : goal.returns-else-transient
unfolding transient_test cause_if transient_of
returns-else-transient c = λ (a0 : List Machine) (a : List Machine) sums.
    let i = c.args.inst.now.tables in
    let read : c.read_cell-used.result ≡ cell (resource_count i) c.args.used.now.items c.args.m.0 c.args.r.0 =
    rw (← c.resources.ensures) c.read_cell-used.ensures in
    elim c.else-transient.branch [
      | else-transient-via-then-transient+else-from-used w ↦
          within_transient i a0 a c.args.m.0 c.args.r.0
          (read ∙ sums.each c.args.m.0 c.args.r.0 c.requires.resource)
          c.capacity-cap.ensures (omega arith)
      | else-transient-via-else-transient w ↦
          sym (cond-false _ _ _ (and_left (transient_at i c.args.r.0) _ (sym c.transient.ensures
          ∙ w.if-transient.false)))
    ]
