-- How a report is judged after all its entry lines were found right.
use Rattle.std.specs.Prelude.{◌≡◌, ℕ, ◌+◌, ◌⊎◌, List, length}
use Rattle.ra_token.specs.Lines.{FirstUnlike}
use Rattle.ra_journal.specs.Legal.{Whole}
use Rattle.ra_journal.specs.Journals.{History}
use Rattle.ra_report.specs.JournalTexts.{head_of}

-- a journal of n entries is whole, and its report has this head
pub record IsAccepted (journal : History) (head : List ℕ) (n : ℕ) : Type 0 where
  pub whole : Whole journal.lots journal.entries
  pub text : head ≡ head_of journal
  pub number : n ≡ length journal.entries

-- a journal isn't whole, and n is the number of the line after the head's lines and its entries
pub record IsUnfinished (journal : History) (lines n : ℕ) : Type 0 where
  pub not_whole : Whole journal.lots journal.entries → ⊥
  pub number : n ≡ lines + length journal.entries + 1

-- a journal is whole, and line n is the first of a head that isn't its report's
pub record HasUnlike (journal : History) (head : List ℕ) (n : ℕ) : Type 0 where
  pub whole : Whole journal.lots journal.entries
  pub place : ℕ
  pub unlike : FirstUnlike head (head_of journal) place
  pub number : n ≡ place + 1

-- line n is told as the wrong one
abbrev pub IsMisjudged : History → List ℕ → ℕ → ℕ → Type 0
IsMisjudged journal head lines n = IsUnfinished journal lines n ⊎ HasUnlike journal head n
