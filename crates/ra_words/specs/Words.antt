-- The words of the command line, without the program's name, as lists of bytes.
use Rattle.std.specs.Prelude.{ℕ, ◌+◌, List, [], ◌∷◌, map, slice_index_or, Bool, false, not, ◌==◌, if◌then◌else◌, Option}
use Rattle.std.specs.Prelude.{Some, None, String}
use Rattle.std.specs.Str.{bytes_eq}
use Rattle.std.specs.String.{string_bytes}
use Rattle.std.specs.declared.alloc.Global.{Global}

-- the bytes of each word
abbrev pub texts : List (String Global) → List (List ℕ)
texts words = map string_bytes words

-- the word at a place, and no bytes after the last one
unfoldable pub word_at : List (List ℕ) → ℕ → List ℕ
word_at words place = slice_index_or words place []

-- a file name has at least one byte and doesn't begin with `-`
abbrev pub is_name : List ℕ → Bool
is_name [] = false
is_name (byte ∷ bytes) = not (byte == 45)

-- an option is at a place
unfoldable pub has_option : List ℕ → List (List ℕ) → ℕ → Bool
has_option option words place = bytes_eq (word_at words place) option

-- the value of an option that may be at a place: the word after it
unfoldable pub value_at : List ℕ → List (List ℕ) → ℕ → Option (List ℕ)
value_at option words place =
    if has_option option words place then Some (word_at words (place + 1)) else None

-- the place after an option that may be at a place, and after its value
unfoldable pub behind : List ℕ → List (List ℕ) → ℕ → ℕ
behind option words place = if has_option option words place then place + 2 else place
