use Rattle.std.proofs.Common.{◌≤◌, length, sym, subst, arith}
use Rattle.ra_model.specs.declared.numbers.Instance.{Instance}
use Rattle.ra_model.specs.Assignments.{IsAssignment}
use Rattle.ra_journal.proofs.EndLemmas.{sound_at}
use Rattle.ra_journal.specs.Journals.{opening_in}
use Rattle.ra_worker.proofs.RunLemmas.{within_journal}
use Rattle.ra_worker.proofs.prepared.bring_to_best.Goals as goal

pub restore-requires-clause-within : goal.restore-requires-clause-within
restore-requires-clause-within c =
    let journal = c.args.journal.now in
    omega (
      arith,
      c.best_at.ensures.value,
      within_journal (opening_in journal) journal.entries,
    )

pub parts-requires-clause-fits : goal.parts-requires-clause-fits
parts-requires-clause-fits c =
    let journal = c.args.journal.now in
    let within : c.best_at.result ≤ length journal.entries =
    omega (
      arith,
      c.best_at.ensures.value,
      within_journal (opening_in journal) journal.entries,
    ) in
    let sound = sound_at (opening_in journal) journal.entries
    c.best_at.result c.best_at.ensures.sound.start c.best_at.ensures.sound.legal within in
    subst (λ (i : Instance). IsAssignment i.tables c.restore.new.best.items) (sym c.instance.ensures.value)
    (subst (IsAssignment journal.instance.tables) (sym c.restore.ensures.items) sound.assignment)
