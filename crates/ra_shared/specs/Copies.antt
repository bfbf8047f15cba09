-- What a commit copies for its worker in its own turn.
use Rattle.std.specs.Prelude.{◌≡◌, ◌⊎◌, ℕ, List, [], length}
use Rattle.ra_journal.specs.declared.entries.Entry.{Entry}
use Rattle.ra_journal.specs.Batches.{batch_from}
use Rattle.ra_journal.specs.Quiet.{AreRefused}

-- the batch after an answer to a plan that was made at place q: nothing if all entries from place q on are refused, and
-- else these entries
abbrev pub CopiesUnlessQuiet : ℕ → List Entry → List Entry → Type 0
CopiesUnlessQuiet q seen batch =
    ((AreRefused seen q (length seen) → ⊥) × (batch ≡ batch_from seen q))
    ⊎ (AreRefused seen q (length seen) × (batch ≡ []))
