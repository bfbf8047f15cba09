-- What holds of the lines of any bytes, each proved by a function of `lines`.
use Rattle.std.specs.Prelude.{◌≡◌, ℕ, suc, ◌<◌, true, List, [], ◌∷◌, ◌++◌, length, Some}
use Rattle.ra_token.specs.Lines.{lines_of, line_at, joined_lines, ends_line}

-- the lines of bytes, one after another, are the bytes
abbrev pub LinesAreTheBytes : Type 0
LinesAreTheBytes = (bytes : List ℕ) → joined_lines (lines_of bytes) ≡ bytes

-- bytes that end with LF, and others after them, have the lines of both
abbrev pub LinesOfBoth : Type 0
LinesOfBoth = (a b : List ℕ) → ends_line a ≡ true → lines_of (a ++ b) ≡ lines_of a ++ lines_of b

-- a line is its body, and an LF after it unless it is the last line
pub record IsWhole (bytes : List ℕ) (n : ℕ) (line : List ℕ) : Type 0 where
  pub some : 0 < length line
  pub one : lines_of line ≡ line ∷ []
  pub ended : suc n < length (lines_of bytes) → ends_line line ≡ true

abbrev pub LinesAreWhole : Type 0
LinesAreWhole =
    (bytes : List ℕ) (n : ℕ) (line : List ℕ) → line_at n bytes ≡ Some line → IsWhole bytes n line
