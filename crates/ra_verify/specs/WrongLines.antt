-- Which line of a report is told to be wrong. Four rules are tried in turn, and the first rule that a report breaks
-- names the line; so this needn't be the first line that differs. Lines count from 1; lines 1 to 10 are the head of a
-- report, and those from the eleventh on are its entry lines. (`line_at` counts from 0.)
use Rattle.std.specs.Prelude.{◌≡◌, ◌≢◌, ◌⊎◌, ℕ, ◌+◌, ◌<◌, ◌≤◌, ◌==◌, nat_lt, if◌then◌else◌, List, [], ◌∷◌, ◌++◌, length, Option, Some, None}
use Rattle.ra_base.specs.Searches.{first}
use Rattle.ra_token.specs.Lines.{lines_of, line_at, body_of, FirstUnlike}
use Rattle.ra_journal.specs.declared.entries.Entry.{Entry}
use Rattle.ra_journal.specs.Entries.{entry_at}
use Rattle.ra_journal.specs.Legal.{Legal, Whole}
use Rattle.ra_journal.specs.Openings.{Opening}
use Rattle.ra_report.specs.JournalTexts.{entry_line, report_text}

-- how many bytes may come before the LF or the end of line n + 1: many for the line that tells an assignment
unfoldable pub most_bytes : ℕ → ℕ
most_bytes n = if n == 8 then 600000 else 64

-- the number of line n + 1, if it is there and over long
unfoldable pub if_over_long : ℕ → Option (List ℕ) → Option ℕ
if_over_long n None = None
if_over_long n (Some line) =
    if nat_lt (most_bytes n) (length (body_of line)) then Some (n + 1) else None

unfoldable pub over_long : List ℕ → ℕ → Option ℕ
over_long bytes n = if_over_long n (line_at n bytes)

-- the first over long line among lines 1 to 10
unfoldable pub first_over_long : List ℕ → Option ℕ
first_over_long bytes = first 10 (over_long bytes)

-- the first entry lines are right: they are the lines of a legal journal, one for each entry
pub record AreRight (o : Opening) (bytes : List ℕ) (h : List Entry) :
    Type 0 where
  pub legal : Legal o h
  pub lines : (j : ℕ) → j < length h → line_at (10 + j) bytes ≡ Some (entry_line j (entry_at h j))

-- the first entry lines are right, and there are no others
pub record AreAllRight (o : Opening) (bytes : List ℕ) (h : List Entry) : Type 0 where
  pub right : AreRight o bytes h
  pub all : length (lines_of bytes) ≤ 10 + length h

-- after right entry lines, line n is there and isn't right: it is the line of no entry that may follow their entries
pub record IsWrongEntry (o : Opening) (bytes : List ℕ) (n : ℕ) : Type 0 where
  pub short : first_over_long bytes ≡ None
  pub journal : List Entry
  pub right : AreRight o bytes journal
  pub there : 10 + length journal < length (lines_of bytes)
  pub wrong : (e : Entry) → Legal o (journal ++ e ∷ [])
      → line_at (10 + length journal) bytes ≢ Some (entry_line (length journal) e)
  pub number : n ≡ 11 + length journal

-- all entry lines are right, and their journal isn't whole: an entry is missing after the last line
pub record IsCutOff (o : Opening) (bytes : List ℕ) (n : ℕ) : Type 0 where
  pub short : first_over_long bytes ≡ None
  pub journal : List Entry
  pub right : AreAllRight o bytes journal
  pub not_whole : Whole o.lots journal → ⊥
  pub number : n ≡ length (lines_of bytes) + 1

-- all entry lines are right and their journal is whole, and line n is the first of lines 1 to 10 that isn't there or
-- isn't that line of the journal's report
pub record IsWrongHead (o : Opening) (bytes : List ℕ) (n : ℕ) : Type 0 where
  pub short : first_over_long bytes ≡ None
  pub journal : List Entry
  pub right : AreAllRight o bytes journal
  pub whole : Whole o.lots journal
  pub place : ℕ
  pub within : place < 10
  pub unlike : FirstUnlike bytes (report_text o journal) place
  pub number : n ≡ place + 1

-- no line is wrong: none is over long among the first ten, all entry lines are right, their journal is whole, and lines
-- 1 to 10 are those of its report
pub record NoneIsWrong (o : Opening) (bytes : List ℕ) : Type 0 where
  pub short : first_over_long bytes ≡ None
  pub journal : List Entry
  pub right : AreAllRight o bytes journal
  pub whole : Whole o.lots journal
  pub head : (n : ℕ) → n < 10 → line_at n bytes ≡ line_at n (report_text o journal)

-- the wrong line of a report's bytes, by the first of these rules that applies: an over long line among lines 1 to 10,
-- an entry line that isn't right, the line after the last if the journal isn't whole, a line of the head; None
-- otherwise
abbrev pub IsWrongLine : Opening → List ℕ → Option ℕ → Type 0
IsWrongLine o bytes (Some n) =
    (first_over_long bytes ≡ Some n)
    ⊎ (IsWrongEntry o bytes n ⊎ (IsCutOff o bytes n ⊎ IsWrongHead o bytes n))
IsWrongLine o bytes None = NoneIsWrong o bytes

-- bytes are the report of a journal of n entries that is legal and whole
pub record IsReport (o : Opening) (bytes : List ℕ) (n : ℕ) : Type 0 where
  pub journal : List Entry
  pub legal : Legal o journal
  pub whole : Whole o.lots journal
  pub text : bytes ≡ report_text o journal
  pub number : length journal ≡ n
