-- How a run ended, and the line that tells it.
use Rattle.std.specs.Prelude.{◌≡◌, ℕ, List, [], ◌∷◌, ◌++◌, Bool, true, false, Option, codes}
use Rattle.std.specs.Io.KnownBytes.{Appends}
use Rattle.ra_report.specs.Pieces.{joined}
use Rattle.ra_cases.specs.declared.endings.Ending.{Ending}

-- two endings have the same status, the same output and the same error line
pub record Same (came wanted : Ending) : Type 0 where
  pub status : came.status ≡ wanted.status
  pub out : came.out.now ≡ wanted.out.now
  pub err : came.err.now ≡ wanted.err.now

-- the line of a case: its name, and whether it ended as it should
unfoldable pub case_line : List ℕ → Bool → List ℕ
case_line name true = joined (name ∷ codes ": ok\n" ∷ [])
case_line name false = joined (name ∷ codes ": FAILED\n" ∷ [])

-- a sink took more, or nothing
abbrev pub Grows : Option (List ℕ) → Option (List ℕ) → Type 0
Grows old new = (text : List ℕ) × Appends old new text

-- a sink took the line of a case that failed, and before it what shows why
abbrev pub TellsFailure : Option (List ℕ) → Option (List ℕ) → List ℕ → Type 0
TellsFailure old new name = (shown : List ℕ) × Appends old new (shown ++ case_line name false)
