-- What holds of every report, each proved by a function of `report`.
use Rattle.std.specs.Prelude.{◌≡◌, ℕ, ◌^◌, ◌<◌, List, ◌∷◌, ◌++◌, length, drop, Some}
use Rattle.std.specs.Fmt.{decimal}
use Rattle.ra_base.specs.declared.causes.Drawing.{Drawing}
use Rattle.ra_base.specs.declared.costs.Parts.{Parts}
use Rattle.ra_base.specs.declared.ids.Machine.{Machine}
use Rattle.ra_journal.specs.declared.entries.Entry.{Entry}
use Rattle.ra_journal.specs.Openings.{Opening}
use Rattle.ra_token.specs.Lines.{lines_of}
use Rattle.ra_report.specs.Texts.{number_text}
use Rattle.ra_report.specs.JournalTexts.{entry_line, entries_text, entry_lines, report_lines, report_text, report_head, lines_left, IsJournalOf}

-- a program's number is written as std writes it
abbrev pub NumbersAreDecimal : Type 0
NumbersAreDecimal = (n : ℕ) → n < 2 ^ 128 → number_text n ≡ decimal n

-- two journals with the same entry lines are equal
abbrev pub SameLinesSameJournal : Type 0
SameLinesSameJournal =
    (h k : List Entry) → entries_text h (length h) ≡ entries_text k (length k) → h ≡ k

-- no bytes tell two journals
abbrev pub OneJournalOfBytes : Type 0
OneJournalOfBytes =
    (bytes : List ℕ) (h k : List Entry) → IsJournalOf bytes h → IsJournalOf bytes k → h ≡ k

-- what is written of a journal tells it, whatever the ten lines before its entries say
abbrev pub WrittenTellsItsJournal : Type 0
WrittenTellsItsJournal =
    (parts : Parts) (bound_total best_at : ℕ) (a : List Machine) (drawing : Drawing)
    (h : List Entry)
    → IsJournalOf (report_lines parts bound_total best_at a drawing h) h

-- the report of a journal tells that journal
abbrev pub ReportTellsItsJournal : Type 0
ReportTellsItsJournal =
    (o : Opening) (h : List Entry)
    → IsJournalOf (report_text o h) h

-- two entries are equal if their lines are at one place at the front of the same bytes, and so is what follows
abbrev pub SameLineSameEntry : Type 0
SameLineSameEntry =
    (j : ℕ) (e f : Entry) (x y : List ℕ) → entry_line j e ++ x ≡ entry_line j f ++ y
    → (e ≡ f) × (x ≡ y)

-- the line of an entry is one line, whatever follows
abbrev pub EntryLineIsOneLine : Type 0
EntryLineIsOneLine =
    (j : ℕ) (e : Entry) (rest : List ℕ)
    → lines_of (entry_line j e ++ rest) ≡ entry_line j e ∷ lines_of rest

-- a report is its head and the lines of its entries, and the head has ten lines, whatever follows
pub record HasTenLines (head : List ℕ) : Type 0 where
  pub ten : length (lines_of head) ≡ 10
  pub before : (rest : List ℕ) → lines_of (head ++ rest) ≡ lines_of head ++ lines_of rest

abbrev pub ReportIsHeadAndEntries : Type 0
ReportIsHeadAndEntries =
    (o : Opening) (h : List Entry)
    → (report_text o h ≡ report_head o h ++ entries_text h (length h))
    × HasTenLines (report_head o h)

abbrev pub EntriesAreLines : Type 0
EntriesAreLines =
    (h : List Entry) (n : ℕ) (rest : List ℕ)
    → lines_of (entries_text h n ++ rest) ≡ entry_lines h n ++ lines_of rest

-- the lines of what comes after the first n lines are the others
abbrev pub LinesBehind : Type 0
LinesBehind =
    (n : ℕ) (bytes rest : List ℕ) → lines_left n (Some bytes) ≡ Some rest
    → lines_of rest ≡ drop n (lines_of bytes)
