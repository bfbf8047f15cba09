-- What the command of one job does is what that of the job of the words does.
use Rattle.std.proofs.Common.{ap, map, refl, sym, ◌∙◌, arith}
use Rattle.std.proofs.lemmas.List.{length-map}
use Rattle.ra_draws.specs.declared.budgets.Lots.{Lots}
use Rattle.ra_words.specs.Said.{said_lot}
use Rattle.ra_io.specs.Outside.{reading}
use Rattle.ra_jobs.specs.Commands.{These}
use Rattle.ra_jobs.specs.Files.{solve_names, verify_names}
use Rattle.ra_jobs.specs.Outputs.{checked, bounded}
use Rattle.ra_jobs.specs.Repairing.{repaired}
use Rattle.ra_jobs.specs.Editing.{editing}
use Rattle.ra_jobs.proofs.DoesLemmas.{does_for}
use Rattle.ra_jobs.proofs.RepairLemmas.{repair_command_more}
use Rattle.ra_run.specs.Commands.{AreLots}
use Rattle.ra_run.specs.Headline.{solving}
use Rattle.ra_run.specs.Verifying.{verifying}
use Rattle.ra_run.proofs.SolveLemmas.{solve_more}
use Rattle.ra_run.proofs.VerifyLemmas.{verify_more}
use Rattle.ra_run.proofs.job.do_job.Goals as goal

-- the words of lots say these
are_said : (lots l : Lots) → These lots l → AreLots lots.slack lots.drawing (map said_lot lots.lots.items) l
are_said lots l is = record {
  slack_is = ap (λ (x : Lots). x.slack) is;
  drawing_is = ap (λ (x : Lots). x.drawing) is;
  lots_are = ap (λ (x : Lots). map said_lot x.lots.items) is;
}

pub repair_job-requires-clause-one : goal.repair_job-requires-clause-one
repair_job-requires-clause-one g c =
    let one = rw c.in-Repair.is at c.requires in sym (length-map c.in-Repair.lots.lots.items said_lot) ∙ one

pub returns-in-Check : goal.returns-in-Check
returns-in-Check g c =
    rw c.in-Check.is
    (does_for checked _ _ _ _ _ _ (rw c.as_ref.ensures.value at c.of_check-names.ensures.names) c.check_job.ensures)

pub returns-in-Bound : goal.returns-in-Bound
returns-in-Bound g c =
    rw c.in-Bound.is
    (does_for bounded _ _ _ _ _ _
    (rw (c.as_ref-in-Bound.ensures.value, c.as_ref-in-Bound-2.ensures.value) at c.of_bound-names.ensures.names)
    c.bound_job.ensures)

pub returns-in-Solve : goal.returns-in-Solve
returns-in-Solve g c =
    let lots = c.in-Solve.lots in
    rw c.in-Solve.is
    (solve_more (solve_names c.in-Solve.model c.in-Solve.initial c.in-Solve.closed) (These lots)
    (AreLots lots.slack lots.drawing (map said_lot lots.lots.items)) _ _ _ c.solve_job.result (are_said lots)
    (does_for (λ names. solving names (These lots)) _ _ _ _ _ _
    (rw c.as_ref-in-Solve.ensures.value at c.of_solve-names.ensures.names) c.solve_job.ensures))

pub returns-in-Trial : goal.returns-in-Trial
returns-in-Trial g c =
    rw c.in-Trial.is
    (c.trial_run.ensures (reading g.F.Files c.args.outside.files.now c.args.outside.files.now) (record {
      kept = λ other. refl;
      never_fall = λ other. omega arith;
    }))

pub returns-in-Repair : goal.returns-in-Repair
returns-in-Repair g c =
    let lots = c.in-Repair.lots in
    rw c.in-Repair.is
    (repair_command_more (solve_names c.in-Repair.model c.in-Repair.initial c.in-Repair.closed) (These lots)
    (AreLots lots.slack lots.drawing (map said_lot lots.lots.items)) _ _ _ c.repair_job.result (are_said lots)
    (does_for (λ names. repaired names (These lots)) _ _ _ _ _ _
    (rw c.as_ref-in-Repair.ensures.value at c.of_solve-names-in-Repair.ensures.names) c.repair_job.ensures))

pub returns-in-Edit : goal.returns-in-Edit
returns-in-Edit g c =
    rw c.in-Edit.is
    (does_for editing _ _ _ _ _ _
    (rw c.as_ref-in-Edit.ensures.value at c.of_edit-names.ensures.names) c.edit_job.ensures)

pub returns-in-Verify : goal.returns-in-Verify
returns-in-Verify g c =
    let lots = c.in-Verify.lots in
    rw c.in-Verify.is
    (verify_more (verify_names c.in-Verify.model c.in-Verify.initial c.in-Verify.report c.in-Verify.closed) (These lots)
    (AreLots lots.slack lots.drawing (map said_lot lots.lots.items)) _ _ _ c.verify_job.result (are_said lots)
    (does_for (λ names. verifying names (These lots)) _ _ _ _ _ _
    (rw c.as_ref-in-Verify.ensures.value at c.of_verify-names.ensures.names) c.verify_job.ensures))
