-- The lines of a journal in shares, one for each desk.
use Rattle.std.specs.Prelude.{◌≡◌, ℕ, ◌+◌, ◌*◌, min, List, ◌++◌, length}
use Rattle.ra_journal.specs.declared.entries.Entry.{Entry}
use Rattle.ra_report.specs.declared.desks.TheConstants.{SHARE}
use Rattle.ra_report.specs.JournalTexts.{entries_text}

-- a text is the lines of the entries from place m on, before place n: the lines of the first n entries are those of the
-- first m, and then the text
abbrev pub AreLinesOfEntries : List Entry → ℕ → ℕ → List ℕ → Type 0
AreLinesOfEntries h m n text = entries_text h n ≡ entries_text h m ++ text

-- where share number n of the entries from a place on begins: all shares have equally many entries, except that the
-- last ones may have fewer or none
unfoldable pub share_start : List Entry → ℕ → ℕ → ℕ
share_start h from n = min (from + SHARE * n) (length h)

-- a text is the lines of a share
abbrev pub IsShare : List Entry → ℕ → ℕ → List ℕ → Type 0
IsShare h from n text = AreLinesOfEntries h (share_start h from n) (share_start h from (n + 1)) text
