use Rattle.std.proofs.Common.{ap, ◌∙◌}
use Rattle.ra_journal.specs.Journals.{opening_in}
use Rattle.ra_shared.specs.Books.{opening_by}
use Rattle.ra_worker.specs.Replicas.{Progress}
use Rattle.test_workers.proofs.AloneLemmas.{may_run}
use Rattle.test_workers.proofs.runs.alone.begin.Goals as goal

pub returns-clause-may : goal.returns-clause-may
returns-clause-may g c =
    let journal = rw c.expect-journal.ensures at c.make.ensures in
    let shared = rw c.expect-shared.ensures at c.make-2.ensures.opened in
    let replica = rw c.expect-replica.ensures at c.make-3.ensures in
    let worker = rw c.expect-worker.ensures at c.make-4.ensures in
    may_run c.expect-shared.result.0 _ c.expect-worker.result (ap opening_by shared ∙ ap (λ j. opening_in j) journal)
    (rw worker.replica (ap (λ (r : Progress). r.worker) replica.value))
    (λ h. rw worker.replica (replica.at h))
    (rw worker.pass c.only_pass-pass.ensures.new)
