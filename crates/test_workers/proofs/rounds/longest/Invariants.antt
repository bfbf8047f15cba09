-- The greatest budget so far.
use Rattle.std.proofs.Common.{ℕ, ◌<◌, ◌≤◌}
use Rattle.ra_journal.specs.Entries.{budget}
use Rattle.test_workers.proofs.rounds.longest.Given as goal

abbrev pub invariant-loop-w : goal.invariant-loop-w
invariant-loop-w l = (v : ℕ) → v < l.w → budget l.lots v ≤ l.longest
