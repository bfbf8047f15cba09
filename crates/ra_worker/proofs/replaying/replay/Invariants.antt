-- The state at the place so far.
use Rattle.std.proofs.Common.{◌≡◌}
use Rattle.ra_journal.specs.States.{state}
use Rattle.ra_worker.proofs.replaying.replay.Given as goal

abbrev pub invariant-loop-at : goal.invariant-loop-at
invariant-loop-at g l =
    l.world ≡ (record l.fn.world { here = state l.journal.initial.items l.journal.entries l.at })
