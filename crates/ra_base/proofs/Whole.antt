-- Laws of whole numbers that are cut off at zero.
use Rattle.std.proofs.Common.{◌≡◌, ℕ, ◌+◌, ◌-◌, ◌*◌, ℤ, pos, negsuc, arith}
use Rattle.std.specs.Prelude.{◌-ℤ◌, ◌*ℤ◌}
use Rattle.std.proofs.Math.IntN.{pos-*ℤ-pos}
use Rattle.std.proofs.lemmas.Int.{ints}
use Rattle.ra_base.specs.Whole.{above_zero}

-- a difference of natural numbers, if it is one
pub difference : (all part left : ℕ) → left + part ≡ all → pos all -ℤ pos part ≡ pos left
difference all part left sum = omega (arith, ints)

-- max(0, target * a1 - a2) if a1 and a2 are natural numbers
pub above_zero_natural : (t a b : ℕ) → above_zero (pos t *ℤ pos a -ℤ pos b) ≡ t * a - b
unfolding above_zero
above_zero_natural t a b = by_sign (pos t *ℤ pos a -ℤ pos b) (t * a) b (rw (pos-*ℤ-pos t a))
  where
    by_sign : (z : ℤ) (x b : ℕ) → z ≡ pos x -ℤ pos b → above_zero z ≡ x - b
    by_sign (pos n) x b is = omega (arith, ints)
    by_sign (negsuc n) x b is = omega (arith, ints)
