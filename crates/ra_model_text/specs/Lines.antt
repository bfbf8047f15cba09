-- Texts of lines of numbers.
use Rattle.std.specs.Prelude.{ℕ, List, [], ◌∷◌, ◌++◌}
use Rattle.std.specs.Fmt.{decimal}

-- the numbers after the first of a line: a space and the number for each, and LF
unfoldable pub more_text : List ℕ → List ℕ
more_text [] = 10 ∷ []
more_text (n ∷ ns) = 32 ∷ decimal n ++ more_text ns

-- a line: its numbers with one space between two, and LF
unfoldable pub line_text : List ℕ → List ℕ
line_text [] = 10 ∷ []
line_text (n ∷ ns) = decimal n ++ more_text ns

-- lines, one after another
unfoldable pub lines_text : List (List ℕ) → List ℕ
lines_text [] = []
lines_text (line ∷ lines) = line_text line ++ lines_text lines
