-- Whole numbers, which may be negative, cut off at zero.
use Rattle.std.specs.Prelude.{ℕ, ℤ, pos, negsuc}

-- max(0, x)
unfoldable pub above_zero : ℤ → ℕ
above_zero (pos n) = n
above_zero (negsuc n) = 0
