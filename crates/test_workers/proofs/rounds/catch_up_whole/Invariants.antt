-- The replica is at a state of the journal, and its place is known.
use Rattle.std.proofs.Common.{◌≡◌, ◌-◌}
use Rattle.ra_worker.specs.Turns.{StandsInJournal}
use Rattle.test_workers.proofs.rounds.catch_up_whole.Given as goal

abbrev pub invariant-loop-place : goal.invariant-loop-place
invariant-loop-place l = record {
  place : l.replica.place ≡ l.place;
  worker : l.replica.worker ≡ l.fn.replica.worker;
  at : StandsInJournal l.journal l.replica;
}

abbrev pub decreases-loop-place : goal.decreases-loop-place
decreases-loop-place l = l.length - l.place

abbrev pub ghosts-catch_up : goal.ghosts-catch_up
ghosts-catch_up a = record { name = a.blank.name; parts = a.blank.parts }
