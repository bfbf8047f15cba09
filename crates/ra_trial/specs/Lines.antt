-- Lists by number, the numbers of a line, and what is added to a text.
use Rattle.std.specs.Prelude.{◌≡◌, ℕ, zero, suc, ◌+◌, ◌≤◌, List, [], ◌∷◌, ◌++◌, length}
use Rattle.std.specs.Fmt.{decimal}
use Rattle.ra_base.specs.Listed.{Listed}

-- f 0, .., f (n - 1), in this order
unfoldable pub listed : {X : Type 0} → ℕ → (ℕ → X) → List X
listed zero f = []
listed (suc n) f = listed n f ++ f n ∷ []

-- number k of a line: a space before each but the first
unfoldable pub spaced_number_text : ℕ → ℕ → List ℕ
spaced_number_text zero n = decimal n
spaced_number_text (suc k) n = 32 ∷ decimal n

-- a text of at most this number of bytes was added, and the room is as before
pub record AddsAtMost (old new : Listed ℕ) (added : List ℕ) (most : ℕ) : Type 0 where
  pub items : new.items ≡ old.items ++ added
  pub short : length new.items ≤ length old.items + most
  pub room : new.room ≡ old.room
