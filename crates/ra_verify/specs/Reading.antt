-- How far a report was read.
use Rattle.std.specs.Prelude.{◌≡◌, ◌≢◌, ℕ, ◌+◌, ◌<◌, ◌≤◌, List, [], ◌∷◌, ◌++◌, length, take, drop, Some, None}
use Rattle.ra_token.specs.Lines.{lines_of, line_at}
use Rattle.ra_journal.specs.declared.entries.Entry.{Entry}
use Rattle.ra_journal.specs.Legal.{Legal}
use Rattle.ra_journal.specs.Openings.{Opening}
use Rattle.ra_report.specs.JournalTexts.{entry_line}
use Rattle.ra_verify.specs.WrongLines.{over_long, AreRight}

-- the bytes up to a place are the first n lines
pub record AreLines (bytes : List ℕ) (place n : ℕ) : Type 0 where
  pub lines : lines_of bytes ≡ lines_of (take place bytes) ++ lines_of (drop place bytes)
  pub number : length (lines_of (take place bytes)) ≡ n

-- the bytes up to a place are the first ten lines, or all if there are fewer
pub record AreFirstLines (bytes : List ℕ) (place n : ℕ) : Type 0 where
  pub given : AreLines bytes place n
  pub few : n ≤ 10
  pub all : n < 10 → drop place bytes ≡ []

-- these are the bytes of the first lines, and none of the first ten lines is over long
pub record IsHead (bytes : List ℕ) (place n : ℕ) (head : List ℕ) : Type 0 where
  pub first : AreFirstLines bytes place n
  pub text : head ≡ take place bytes
  pub short : (k : ℕ) → k < 10 → over_long bytes k ≡ None

-- the bytes up to a place are the head and the lines of the entries of a legal journal
pub record AreRead (o : Opening) (bytes : List ℕ) (place : ℕ) (h : List Entry) : Type 0 where
  pub given : AreLines bytes place (10 + length h)
  pub right : AreRight o bytes h

-- after the lines of a journal's entries, line n is there and is the line of no entry that may follow
pub record IsWrongNext (o : Opening) (bytes : List ℕ) (h : List Entry) (n : ℕ) : Type 0 where
  pub right : AreRight o bytes h
  pub there : 10 + length h < length (lines_of bytes)
  pub wrong : (e : Entry) → Legal o (h ++ e ∷ [])
      → line_at (10 + length h) bytes ≢ Some (entry_line (length h) e)
  pub number : n ≡ 11 + length h
