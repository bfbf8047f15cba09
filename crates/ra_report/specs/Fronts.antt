-- The words of an entry's line that tell its worker and how many entries it had taken in, and how long such a line is.
use Rattle.std.specs.Prelude.{◌≡◌, ℕ, ◌^◌, ◌<◌, List, ◌∷◌, ◌++◌, drop, Option, Some}
use Rattle.ra_journal.specs.declared.entries.Entry.{Entry}
use Rattle.ra_report.specs.declared.front.Front.{Front}
use Rattle.ra_report.specs.Texts.{number_text}

-- what is read from the line of an entry
abbrev pub front_of : Entry → Front
front_of e = record { worker = e.worker; q = e.q }

-- the worker and the number of entries that it had taken in are within their types
pub record IsSmallEntry (e : Entry) : Type 0 where
  pub worker : e.worker < 2 ^ 32
  pub q : e.q < 2 ^ 64

-- so are the place and the number of the proposal
pub record IsSmallFront (j : ℕ) (e : Entry) : Type 0 where
  pub place : j < 2 ^ 64
  pub entry : IsSmallEntry e
  pub k : e.k < 2 ^ 64

-- four numbers with a space after each, and what follows
abbrev pub four_numbers : ℕ → ℕ → ℕ → ℕ → List ℕ → List ℕ
four_numbers j w k q rest =
    number_text j ++ 32
    ∷ (number_text w ++ 32 ∷ (number_text k ++ 32 ∷ (number_text q ++ 32 ∷ rest)))

-- a place was found, and from there on the bytes are the rest
pub record FindsRest (bytes rest : List ℕ) (found : Option ℕ) : Type 0 where
  pub at : ℕ
  pub is : found ≡ Some at
  pub follows : drop at bytes ≡ rest
