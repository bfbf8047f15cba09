-- The first entry of a journal that is not legal.
use Rattle.std.specs.Prelude.{ℕ, ◌<◌, List, length}
use Rattle.ra_journal.specs.declared.entries.Entry.{Entry}
use Rattle.ra_journal.specs.Entries.{entry_at}
use Rattle.ra_journal.specs.Legal.{IsLegalAt, IsLegal}
use Rattle.ra_journal.specs.Openings.{Opening}

-- there is an entry at place j that isn't legal, and all before it are
pub record IsFirstIllegal (o : Opening) (h : List Entry) (j : ℕ) :
    Type 0 where
  pub there : j < length h
  pub before : IsLegal o h j
  pub illegal : IsLegalAt o h j (entry_at h j) → ⊥
