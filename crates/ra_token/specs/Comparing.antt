-- Bytes that are compared with expected bytes.
use Rattle.std.specs.Prelude.{◌≡◌, ℕ, ◌<◌, ◌⊎◌, Bool, ◌&&◌, nat_lt, nat_eq, List, [], ◌∷◌, ◌++◌, take, length, get_or, Option, Some, None}

-- the byte at a place
abbrev pub is_byte_at : List ℕ → ℕ → ℕ → Bool
is_byte_at bytes place byte = nat_lt place (length bytes) && nat_eq (get_or bytes place 0) byte

-- one byte more, or none
abbrev pub one_or_none : Option ℕ → List ℕ
one_or_none None = []
one_or_none (Some byte) = byte ∷ []

-- the front that agrees, and after it the first byte that doesn't
abbrev pub given_of : List ℕ → ℕ → Option ℕ → List ℕ
given_of expected agreed other = take agreed expected ++ one_or_none other

-- bytes, and their number before them
abbrev pub opened : List ℕ → List ℕ
opened expected = length expected ∷ expected

-- a comparing sink counts as one that took the bytes that it expects before all others, so that these are known to stay
-- whatever is written to it
abbrev pub taken_of : List ℕ → ℕ → Option ℕ → List ℕ
taken_of expected agreed other = opened expected ++ given_of expected agreed other

-- a text was given to a sink that expects these bytes: it was taken whole, or a front of it was and a fault was counted
abbrev pub WasGiven : List ℕ → List ℕ → ℕ → List ℕ → Type 0
WasGiven expected taken faults text =
    (taken ≡ opened expected ++ text)
    ⊎ ((n : ℕ) × (taken ≡ opened expected ++ take n text) × (0 < faults))
