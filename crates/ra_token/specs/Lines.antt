-- The lines of some bytes.
use Rattle.std.specs.Prelude.{◌≡◌, ◌≢◌, ℕ, suc, ◌<◌, Bool, false, ◌==◌, if◌then◌else◌, List, [], ◌∷◌, ◌++◌, length, Option, slice_get}

-- a byte put in front of the first of some lines
abbrev pub onto_first : ℕ → List (List ℕ) → List (List ℕ)
onto_first byte [] = (byte ∷ []) ∷ []
onto_first byte (line ∷ lines) = (byte ∷ line) ∷ lines

-- the lines of some bytes: each ends after its LF, and a last piece without LF is a line too
unfoldable pub lines_of : List ℕ → List (List ℕ)
lines_of [] = []
lines_of (byte ∷ bytes) =
    if byte == 10 then (byte ∷ []) ∷ lines_of bytes else onto_first byte (lines_of bytes)

-- line number n, counted from 0
unfoldable pub line_at : ℕ → List ℕ → Option (List ℕ)
line_at n bytes = slice_get (lines_of bytes) n

-- lines one after another
unfoldable pub joined_lines : List (List ℕ) → List ℕ
joined_lines [] = []
joined_lines (line ∷ lines) = line ++ joined_lines lines

-- the last byte is an LF
unfoldable pub ends_line : List ℕ → Bool
ends_line [] = false
ends_line (byte ∷ []) = byte == 10
ends_line (byte ∷ next ∷ bytes) = ends_line (next ∷ bytes)

-- the bytes before the first LF, or all if there is none: what a line says
unfoldable pub body_of : List ℕ → List ℕ
body_of [] = []
body_of (byte ∷ bytes) = if byte == 10 then [] else byte ∷ body_of bytes

-- there is no LF among the bytes
abbrev pub HasNoEnd : List ℕ → Type 0
HasNoEnd bytes = body_of bytes ≡ bytes

-- how many LF there are
unfoldable pub line_end_count : List ℕ → ℕ
line_end_count [] = 0
line_end_count (byte ∷ bytes) = if byte == 10 then suc (line_end_count bytes) else line_end_count bytes

-- how many bytes of a line come before its LF or its end; and whether they are more than there is room for
abbrev pub length_before_end : List ℕ → ℕ
length_before_end line = length (body_of line)

abbrev pub IsOverLong : ℕ → List ℕ → Type 0
IsOverLong room line = room < length_before_end line

-- the lines of two texts are equal up to number n, where they differ or only one text has a line
pub record FirstUnlike (a b : List ℕ) (n : ℕ) : Type 0 where
  pub before : (m : ℕ) → m < n → line_at m a ≡ line_at m b
  pub here : line_at n a ≢ line_at n b
