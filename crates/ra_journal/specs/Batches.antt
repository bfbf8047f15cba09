-- The entries of a journal from a place on, as a batch gets them.
use Rattle.std.specs.Prelude.{ℕ, List, take, drop}
use Rattle.ra_journal.specs.declared.entries.Entry.{Entry}

-- the entries from place j on, at most 1,024 of them
unfoldable pub batch_from : List Entry → ℕ → List Entry
batch_from h j = take 1024 (drop j h)
