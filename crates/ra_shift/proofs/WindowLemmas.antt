-- A window block by block: which sums are small.
use Rattle.std.proofs.Common.{◌≡◌, ◌↔◌, ℕ, ◌+◌, ◌-◌, ◌*◌, ◌%◌, ◌^◌, ◌<◌, ◌≤◌, List, get_or, sym, subst, ⊎_elim, arith}
use Rattle.std.specs.Int.{bit_at}
use Rattle.std.proofs.lemmas.Bool.{cases_lt}
use Rattle.std.proofs.lemmas.Nat.Bits.{bit_at_cat_low, bit_at_cat_high}
use Rattle.std.proofs.Math.Nat.{mul-le-mul_right, pow-le-pow_right, one-le-pow, mod-eq_of_lt}
use Rattle.std.proofs.lemmas.Nat.{pow-add}

-- of the first n sums those are marked that are at most the limit
pub record AreMarks (sums : List ℕ) (limit marks n : ℕ) : Type 0 where
  pub below : marks < 2 ^ n
  pub bits : (k : ℕ) → k < n → (bit_at marks k ≡ 1) ↔ (get_or sums k 0 ≤ limit)

mask_fits : (small mask n : ℕ) → small < 2 ^ 16 → mask < 2 ^ n → small * 2 ^ n + mask < 2 ^ (n + 16)
mask_fits small mask n s m = grind (arith, mul-le-mul_right, pow-add)

-- a mask of sixteen bits that moves up by whole blocks loses no bit
pub shifted_fits : (small number : ℕ) → small < 2 ^ 16 → number < 4 → small * 2 ^ (number * 16) % 2 ^ 64 ≡ small
    * 2 ^ (number * 16)
shifted_fits small number s l =
    let n = number * 16 in
    let under : 2 ^ (n + 16) ≤ 2 ^ 64 = pow-le-pow_right {n = 2} (omega arith) {i = n + 16} {j = 64} (omega arith) in
    let fits : small * 2 ^ n + 0 < 2 ^ (n + 16) = mask_fits small 0 n s (one-le-pow n 2 (omega arith)) in
    mod-eq_of_lt (omega (arith, under, fits))

pub next_marks : (sums : List ℕ) (limit marks small n : ℕ) → AreMarks sums limit marks n → small < 2 ^ 16
    → ((k : ℕ) → k < 16 → (bit_at small k ≡ 1) ↔ (get_or sums (n + k) 0 ≤ limit))
    → AreMarks sums limit (small * 2 ^ n + marks) (n + 16)
next_marks sums limit marks small n are few next = record {
  below = mask_fits small marks n few are.below;
  bits = λ k l. ⊎_elim
      (λ old. rw (bit_at_cat_low small n marks k old) (are.bits k old))
      (λ new.
      let j = k - n in
      let at : n + j ≡ k = omega arith in
      subst (λ b. (b ≡ 1) ↔ (get_or sums k 0 ≤ limit)) (sym (bit_at_cat_high small n marks k are.below new))
      (subst (λ p. (bit_at small j ≡ 1) ↔ (get_or sums p 0 ≤ limit)) at (next j (omega arith))))
      (cases_lt k n);
}
