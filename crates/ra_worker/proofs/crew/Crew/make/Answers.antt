use Rattle.std.proofs.Common.{length, sym, ap, ◌∙◌, arith}
use Rattle.std.proofs.lemmas.List.{length-map}
use Rattle.ra_journal.specs.Entries.{worker_count}
use Rattle.ra_journal.specs.Journals.{opening_in}
use Rattle.ra_shared.specs.Books.{opening_by}
use Rattle.ra_worker.specs.declared.worker.Worker.{Worker}
use Rattle.ra_worker.proofs.Runs.{all_ready}
use Rattle.ra_worker.proofs.crew.Crew.make.Goals as goal

pub make_workers-requires-clause-exist : goal.make_workers-requires-clause-exist
make_workers-requires-clause-exist c =
    λ k d within. omega (
      arith,
      (c.in_ok-shared.ensures.passes k d within).number,
      within,
      c.in_ok-shared.ensures.count,
      ap (λ j. worker_count j.lots) c.in_ok-journal.ensures,
    )

pub invariant_of-result : goal.invariant_of-result
invariant_of-result c =
    let ws = c.in_ok-workers.workers.items in
    let opened = c.in_ok-shared.ensures.opened in
    record {
      ready = all_ready c.in_ok-shared.shared _ ws
          (ap opening_by opened ∙ ap (λ j. opening_in j) c.in_ok-journal.ensures)
          (sym (length-map ws (λ (w : Worker). w.pass)) ∙ ap length c.in_ok-workers.ensures.passes
          ∙ c.in_ok-shared.ensures.count ∙ ap (λ j. worker_count j.lots) c.in_ok-journal.ensures)
          (rw c.in_ok-workers.ensures.passes c.in_ok-shared.ensures.passes)
          c.in_ok-workers.ensures.fresh;
      room = (c.in_ok-workers.ensures.taken, c.in_ok-workers.ensures.room);
    }
