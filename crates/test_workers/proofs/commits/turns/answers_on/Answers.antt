use Rattle.std.proofs.Common.{ap}
use Rattle.ra_journal.specs.Journals.{opening_in}
use Rattle.test_workers.proofs.TurnLemmas.{are_at_journal}
use Rattle.test_workers.proofs.commits.turns.answers_on.Goals as goal

pub play_all-requires : goal.play_all-requires
play_all-requires g c =
    let made = rw c.expect-journal.ensures at c.make-2.ensures in
    record {
      at = are_at_journal _ c.expect-journal.result c.expect-replicas.result.items
          (ap (λ j. opening_in j) made) (rw c.expect-replicas.ensures at c.make_replicas.ensures);
    }
