-- By how much rows of numbers fall short of what is asked of them, for one machine.
use Rattle.std.specs.Prelude.{◌≡◌, ℕ, ◌+◌, ◌-◌, ◌%◌, ◌<◌, ◌≤◌, List, [], ◌∷◌, ◌⊎◌, length, slice_index}
use Rattle.ra_shift.specs.declared.blocks.Term.{Term}

-- the sum, over the terms, of how much the number at a place of the term's row is below the term's amount
unfoldable pub lacking : List ℕ → List Term → ℕ → ℕ
lacking rows [] place = 0
lacking rows (t ∷ terms) place = (t.amount - slice_index rows (t.row + place)) + lacking rows terms place

-- the sum of all amounts that the terms ask for
unfoldable pub amounts : List Term → ℕ
amounts [] = 0
amounts (t ∷ terms) = t.amount + amounts terms

-- a sum, or instead a partial sum that is above the limit
abbrev pub IsSumOrLarge : ℕ → ℕ → ℕ → Type 0
IsSumOrLarge limit said sum = (said ≡ sum) ⊎ ((limit < said) × (said ≤ sum))

-- sixteen numbers side by side
pub record HasLanes (lanes : List ℕ) (f : ℕ → ℕ) : Type 0 where
  pub many : length lanes ≡ 16
  pub each : (k : ℕ) → k < 16 → slice_index lanes k ≡ f k

-- n numbers of a ring from `start` on: after its last number comes its first
pub record IsRingPart (ring : List ℕ) (start n : ℕ) (part : List ℕ) : Type 0 where
  pub many : length part ≡ n
  pub each : (k : ℕ) → k < n → slice_index part k ≡ slice_index ring ((start + k) % length ring)
