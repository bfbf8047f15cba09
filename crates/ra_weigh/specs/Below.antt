-- A cost that matters only if it is below a bound.
use Rattle.std.specs.Prelude.{◌≡◌, ℕ, ◌<◌, ◌≤◌, Option, Some, None}

-- a cost, if it is below a bound
pub record IsIfBelow (bound cost : ℕ) (found : Option ℕ) : Type 0 where
  pub is : (n : ℕ) → found ≡ Some n → n ≡ cost
  pub low : (n : ℕ) → found ≡ Some n → n < bound
  pub none : found ≡ None → bound ≤ cost
