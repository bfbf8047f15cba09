-- The verdict on a weighed move, and the cost after it by the sign of its local change.
use Rattle.std.proofs.Common.{◌≡◌, ℕ, ◌+◌, ◌-◌, ◌*◌, ◌^◌, ◌<◌, ◌≤◌, ℤ, pos, negsuc, ◌≤ℤ◌, ◌<ℤ◌, true, false, Option, Some, None, refl, arith, lt-ltb, le-ltb}
use Rattle.std.specs.Prelude.{FitsSigned, unsigned_abs}
use Rattle.std.specs.Int.{w128}
use lib.Signed.{lt_z}
use mir.Val.{to_z, of_z}
use Rattle.std.proofs.lemmas.Int.{ints, to_z-of_z}
use Rattle.ra_base.specs.Searches.{or_else}
use Rattle.ra_base.specs.declared.causes.Cause.{Cause}
use Rattle.ra_base.specs.declared.causes.Cause.TheVariants.{Rise}
use Rattle.ra_model.specs.Broken.{cause_if}
use Rattle.ra_moves.specs.declared.verdicts.Verdict.TheVariants.{Done, Refused}
use Rattle.ra_moves.specs.Judging.{rise_test, verdict_of}
use Rattle.ra_moves.specs.Settling.{settled_cost}

-- the verdict
pub risen : (before after allowed : ℕ) → before + allowed < after → Refused (Rise allowed before after) ≡
    verdict_of (rise_test before after allowed) after
unfolding verdict_of rise_test cause_if
risen before after allowed more = rw (lt-ltb (before + allowed) after more) refl

pub done : (before after allowed : ℕ) → after ≤ before + allowed →
    Done after ≡ verdict_of (rise_test before after allowed) after
unfolding verdict_of rise_test cause_if
done before after allowed few = rw (le-ltb (before + allowed) after few) refl

pub settled_broken : (broken rise : Option Cause) (cause : Cause) (cost : ℕ) → broken ≡ Some cause →
    Refused cause ≡ verdict_of (or_else broken rise) cost
unfolding verdict_of or_else
settled_broken broken rise cause cost is = rw is refl

pub settled_whole : (broken rise : Option Cause) (cost : ℕ) → broken ≡ None →
    verdict_of rise cost ≡ verdict_of (or_else broken rise) cost
unfolding or_else
settled_whole broken rise cost is = rw is refl

-- the cost
product_small : (a b : ℕ) → a < 2 ^ 32 → b < 2 ^ 32 → a * b < 2 ^ 64
product_small a b a_small b_small = grind arith

module _ (kept now after weight : ℕ) where
  -- if the local change is below zero
  pub fallen : (local : ℤ) → local <ℤ pos 0 →
      pos 0 ≤ℤ settled_cost kept now after weight local → (unsigned_abs local + weight * now ≤ kept + weight * after)
      × (pos (kept + weight * after - (unsigned_abs local + weight * now)) ≡ settled_cost kept now after weight local)
  unfolding settled_cost
  fallen (pos n) below some = absurd (omega (arith, ints))
  fallen (negsuc n) below some = (omega (arith, ints), omega (arith, ints))

  -- if it isn't
  pub grown : (local : ℤ) → pos 0 ≤ℤ local →
      pos 0 ≤ℤ settled_cost kept now after weight local → (weight * now ≤ kept + unsigned_abs local + weight * after)
      × (pos (kept + unsigned_abs local + weight * after - weight * now) ≡ settled_cost kept now after weight local)
  unfolding settled_cost
  grown (pos n) above some = (omega (arith, ints), omega (arith, ints))
  grown (negsuc n) above some = absurd (omega (arith, ints))

  -- the cost before a move isn't far above that after it
  pub near : (local : ℤ) → FitsSigned w128 local → weight < 2 ^ 32 → now < 2 ^ 32 →
      settled_cost kept now after weight local <ℤ pos (2 ^ 114) → kept < 2 ^ 127 + 2 ^ 115
  unfolding settled_cost
  near (pos n) few weight_small now_small fits =
      omega (arith, ints, product_small weight now weight_small now_small)
  near (negsuc n) few weight_small now_small fits =
      omega (arith, ints, product_small weight now weight_small now_small)

  -- so the sums fit
  pub fallen_fits : (local : ℤ) → FitsSigned w128 local → weight < 2 ^ 32 → now < 2 ^ 32 →
      after < 2 ^ 32 → settled_cost kept now after weight local <ℤ pos (2 ^ 114) → kept + weight * after < 2 ^ 128
  fallen_fits local few weight_small now_small after_small fits =
      omega (
        arith,
        near local few weight_small now_small fits,
        product_small weight after weight_small after_small,
      )

  pub grown_fits : (local : ℤ) → pos 0 ≤ℤ local → weight < 2 ^ 32 → now < 2 ^ 32 →
      settled_cost kept now after weight local <ℤ pos (2 ^ 114) → kept + unsigned_abs local + weight * after < 2 ^ 128
  unfolding settled_cost
  grown_fits (pos n) above weight_small now_small fits =
      omega (arith, ints, product_small weight now weight_small now_small)
  grown_fits (negsuc n) above weight_small now_small fits = absurd (omega (arith, ints))

-- what the code reads of the local change
pub below_zero : (z : ℤ) → FitsSigned w128 z → lt_z (to_z w128 (of_z w128 z)) (pos 0) ≡ true → z <ℤ pos 0
below_zero z fits test = let read : lt_z z (pos 0) ≡ true = rw (to_z-of_z w128 z fits) at test in grind (arith, ints)

pub above_zero : (z : ℤ) → FitsSigned w128 z → lt_z (to_z w128 (of_z w128 z)) (pos 0) ≡ false → pos 0 ≤ℤ z
above_zero z fits test = let read : lt_z z (pos 0) ≡ false = rw (to_z-of_z w128 z fits) at test in grind (arith, ints)

pub size_is : (z : ℤ) (n : ℕ) → FitsSigned w128 z → n ≡ unsigned_abs (to_z w128 (of_z w128 z)) → n ≡ unsigned_abs z
size_is z n fits read = rw (to_z-of_z w128 z fits) at read
