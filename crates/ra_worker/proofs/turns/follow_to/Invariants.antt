-- The replica is at a state of the journal, and its place is known.
use Rattle.std.proofs.Common.{◌≡◌}
use Rattle.ra_journal.specs.Journals.{opening_in}
use Rattle.ra_worker.specs.Replicas.{IsAt}
use Rattle.ra_worker.proofs.turns.follow_to.Given as goal

abbrev pub invariant-loop-at : goal.invariant-loop-at
invariant-loop-at g l = record {
  place : l.replica.place ≡ l.at;
  worker : l.replica.worker ≡ l.fn.replica.worker;
  here : IsAt (opening_in l.journal) l.journal.entries
      l.replica;
}
