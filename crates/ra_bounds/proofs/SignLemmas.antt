-- Laws of the signed numbers of the bound.
use Rattle.std.proofs.Common.{◌≡◌, ℕ, ◌^◌, ◌<◌, ◌≤◌, ℤ, pos, negsuc, ◌≤ℤ◌, ◌<ℤ◌, true, false, refl, sym}
use Rattle.std.proofs.Common.{arith}
use Rattle.std.specs.Prelude.{◌-ℤ◌, ◌*ℤ◌, unsigned_abs}
use Rattle.std.specs.Int.{w128}
use lib.Signed.{lt_z}
use mir.Val.{to_z, of_z}
use Rattle.std.proofs.lemmas.Int.{ints, to_z-of_z, fits_signed_from_abs, unsigned_abs-mul}
use Rattle.std.proofs.lemmas.Nat.{mul-le}
use Rattle.ra_base.specs.Whole.{above_zero}

-- a number above zero, and one that isn't
pub above_zero_abs : (z : ℤ) → pos 0 <ℤ z → unsigned_abs z ≡ above_zero z
unfolding above_zero
above_zero_abs (pos n) above = refl
above_zero_abs (negsuc n) above = absurd (omega (arith, ints))

pub above_zero_none : (z : ℤ) → z ≤ℤ pos 0 → above_zero z ≡ 0
unfolding above_zero
above_zero_none (pos n) below = omega (arith, ints)
above_zero_none (negsuc n) below = refl

-- how far from zero the numbers are

pub product_near : (t : ℕ) (x : ℤ) → t < 2 ^ 32 → unsigned_abs x ≤ 2 ^ 48 → unsigned_abs (pos t *ℤ x) ≤ 2 ^ 80
product_near t x small near =
    omega (arith, unsigned_abs-mul (pos t) x, mul-le t (unsigned_abs x) (2 ^ 32) (2 ^ 48) (omega arith) near)

pub short_near : (t : ℕ) (x y : ℤ) → t < 2 ^ 32 → unsigned_abs x ≤ 2 ^ 48 → unsigned_abs y ≤ 2 ^ 48 →
    unsigned_abs (pos t *ℤ x -ℤ y) ≤ 2 ^ 82
short_near t x y small x_near y_near = omega (arith, ints, product_near t x small x_near)

-- numbers of 128 bits as the program has them

pub read_back : (z : ℤ) → unsigned_abs z < 2 ^ 127 → to_z w128 (of_z w128 z) ≡ z
read_back z near = to_z-of_z w128 z (fits_signed_from_abs w128 z near)

pub product_read : (t : ℕ) (from x : ℤ) → from ≡ pos t → t < 2 ^ 32 → unsigned_abs x ≤ 2 ^ 48 →
    to_z w128 (of_z w128 (to_z w128 (of_z w128 from) *ℤ to_z w128 (of_z w128 x))) ≡ pos t *ℤ x
product_read t from x is small near = rw (is, read_back (pos t) (omega (arith, ints)), read_back x (omega arith))
    (read_back (pos t *ℤ x) (omega (arith, product_near t x small near)))

pub short_read : (t : ℕ) (from x y : ℤ) → from ≡ pos t → t < 2 ^ 32 → unsigned_abs x ≤ 2 ^ 48 →
    unsigned_abs y ≤ 2 ^ 48 →
    to_z w128 (of_z w128 (to_z w128 (of_z w128 (to_z w128 (of_z w128 from) *ℤ to_z w128 (of_z w128 x))) -ℤ to_z w128
    (of_z w128 y))) ≡ pos t *ℤ x -ℤ y
short_read t from x y is small x_near y_near = rw (product_read t from x is small x_near, read_back y (omega arith))
    (read_back (pos t *ℤ x -ℤ y) (omega (arith, short_near t x y small x_near y_near)))

-- a difference of two natural numbers that are small

pub difference_read : (x y : ℤ) (all part : ℕ) → x ≡ pos all → y ≡ pos part → all < 2 ^ 48 → part < 2 ^ 48 →
    to_z w128 (of_z w128 (to_z w128 (of_z w128 x) -ℤ to_z w128 (of_z w128 y))) ≡ pos all -ℤ pos part
difference_read x y all part x_is y_is all_small part_small =
    rw (x_is, y_is, read_back (pos all) (omega (arith, ints)), read_back (pos part) (omega (arith, ints)))
    (read_back (pos all -ℤ pos part) (omega (arith, ints)))

pub difference_near : (all part : ℕ) → all < 2 ^ 48 → part < 2 ^ 48 → unsigned_abs (pos all -ℤ pos part) ≤ 2 ^ 48
difference_near all part all_small part_small = omega (arith, ints)

-- the two answers of a program that tests the difference

pub short_above : (z w : ℤ) → z ≡ w → lt_z (pos 0) z ≡ true → unsigned_abs z ≡ above_zero w
short_above z w is test = rw (← is) (above_zero_abs z (grind (arith, ints)))

pub short_none : (z w : ℤ) → z ≡ w → lt_z (pos 0) z ≡ false → 0 ≡ above_zero w
short_none z w is test = rw (← is) (sym (above_zero_none z (grind (arith, ints))))
