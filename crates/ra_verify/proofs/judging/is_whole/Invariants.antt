-- The workers so far have made all proposals of their budgets.
use Rattle.std.proofs.Common.{◌≡◌, ℕ, ◌<◌, length}
use Rattle.ra_journal.specs.Entries.{entries_of, budget}
use Rattle.ra_verify.proofs.judging.is_whole.Given as goal

abbrev pub invariant-loop-w : goal.invariant-loop-w
invariant-loop-w l = (v : ℕ) → v < l.w → entries_of l.journal.entries (length l.journal.entries)
    v ≡ budget l.journal.lots v
