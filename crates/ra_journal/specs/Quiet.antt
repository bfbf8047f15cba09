-- Entries that are refused change nothing, and where the last entry that is done stands.
use Rattle.std.specs.Prelude.{◌≡◌, ℕ, suc, ◌<◌, ◌≤◌, List, length, None}
use Rattle.ra_moves.specs.declared.verdicts.Verdict.{Verdict}
use Rattle.ra_moves.specs.declared.verdicts.Verdict.TheVariants.{Done, Refused}
use Rattle.ra_journal.specs.declared.entries.Entry.{Entry}
use Rattle.ra_journal.specs.Entries.{entry_at, made_by}

-- all entries from place m on, before place n, are refused
pub record AreRefused (h : List Entry) (m n : ℕ) : Type 0 where
  pub each : (j : ℕ) → m ≤ j → j < n → made_by (entry_at h j) ≡ None

-- number n is one more than the place of the last entry that is done, and 0 if none is
pub record IsAfterDone (h : List Entry) (n : ℕ) : Type 0 where
  pub within : n ≤ length h
  pub done : (j : ℕ) → n ≡ suc j → made_by (entry_at h j) ≡ None → ⊥
  pub refused : AreRefused h n (length h)

-- that number after one entry more with a verdict, given the number before it and how many entries there are then
unfoldable pub done_then : ℕ → ℕ → Verdict → ℕ
done_then before n (Done cost) = n
done_then before n (Refused cause) = before
