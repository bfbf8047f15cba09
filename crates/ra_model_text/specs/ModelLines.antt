-- What is written so far of a line and of a group.
use Rattle.std.specs.Prelude.{ℕ, zero, suc, List, [], ◌∷◌, ◌++◌}
use Rattle.std.specs.Fmt.{decimal}
use Rattle.std.specs.List.{flat_map}
use Rattle.ra_model_read.specs.FieldOrder.{end_to_end}
use Rattle.ra_model_text.specs.Lines.{line_text}

-- f 0 .. f (n - 1), with a space before each
unfoldable pub spaced : ℕ → (ℕ → ℕ) → List ℕ
spaced zero f = []
spaced (suc n) f = spaced n f ++ (32 ∷ decimal (f n))

-- the numbers of a list, with a space before each
abbrev pub number_word : ℕ → List ℕ
number_word n = 32 ∷ decimal n

unfoldable pub numbers_text : List ℕ → List ℕ
numbers_text ns = flat_map number_word ns

-- the line of a count, and the texts of the first k
unfoldable pub group_to : ℕ → ℕ → (ℕ → List ℕ) → List ℕ
group_to count k each = line_text (count ∷ []) ++ end_to_end k each
