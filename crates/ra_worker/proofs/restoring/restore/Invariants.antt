-- The state at the place so far.
use Rattle.std.proofs.Common.{◌≡◌}
use Rattle.ra_journal.specs.States.{state}
use Rattle.ra_worker.proofs.restoring.restore.Given as goal

abbrev pub invariant-loop-at : goal.invariant-loop-at
invariant-loop-at l = record {
  here : l.best.items ≡ state l.journal.initial.items l.journal.entries l.at;
  room : l.best.room ≡ l.fn.best.room;
}
