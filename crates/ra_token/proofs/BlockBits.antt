-- What a mask of a block says of its bits and bytes.
use Rattle.std.proofs.Common.{◌≡◌, ℕ, ◌+◌, ◌-◌, ◌/◌, ◌^◌, ◌<◌, ◌≤◌, true, false, List, cond, min, get_or, bit_and, sym, ap, ◌∙◌, inl, inr, add-one, arith, w64}
use Rattle.std.specs.Int.{bit_at}
use Rattle.std.proofs.lemmas.Bool.{cases_Bool}
use Rattle.std.proofs.lemmas.Nat.{and_mask}
use Rattle.std.proofs.lemmas.Nat.Bits.{bit_at_and, bit_at_lowest, bit_at-suc, bit_at-zero, bit_at_not, bit_at-lt}
use Rattle.ra_token.specs.Runs.{digit_at, is_blank}
use Rattle.ra_token.specs.Short.{AreApart, AreShort, IsTidy, Tells}

-- a bit of a number that was moved down by one
moved : (n k : ℕ) → bit_at (n / 2) k ≡ bit_at n (k + 1)
moved n k = sym (bit_at-suc n k) ∙ ap (bit_at n) (sym (add-one k))

-- a bit of two numbers that have none in common
none_of : (a b k : ℕ) → bit_and a b ≡ 0 → min (bit_at a k) (bit_at b k) ≡ 0
none_of a b k none = sym (bit_at_and a b k) ∙ ap (λ n. bit_at n k) none ∙ bit_at-zero k

pub apart : (bits : ℕ) → bit_and bits 1 ≡ 0 → bit_and bits (bits / 2) ≡ 0 → AreApart bits
apart bits low none = record {
  lowest = bit_at_lowest bits ∙ sym (and_mask bits 1) ∙ low;
  next = λ k l set. omega (arith, none_of bits (bits / 2) k none, moved bits k, bit_at-lt bits (k + 1));
}

pub short : (bits : ℕ) → bits < 2 ^ 64
    → bit_and (bit_and (18446744073709551615 - bits) ((18446744073709551615 - bits) / 2))
    (bit_and (18446744073709551615 - bits) ((18446744073709551615 - bits) / 2) / 4) ≡ 0 → AreShort bits
short bits small none k l one two three =
    let clear : ℕ = 18446744073709551615 - bits in
    let pair : ℕ = bit_and clear (clear / 2) in
    let is_clear : (j : ℕ) → j < 64 → bit_at clear j ≡ 1 - bit_at bits j =
    λ j below. bit_at_not w64 bits j small below in
    let is_pair : (j : ℕ) → bit_at pair j ≡ min (bit_at clear j) (bit_at clear (j + 1)) =
    λ j. bit_at_and clear (clear / 2) j ∙ ap (min (bit_at clear j)) (moved clear j) in
    let halves : pair / 4 ≡ pair / 2 / 2 = omega arith in
    let next : k + 1 + 1 ≡ k + 2 = omega arith in
    let next_too : k + 2 + 1 ≡ k + 3 = omega arith in
    let far : bit_at (pair / 4) k ≡ bit_at pair (k + 2) =
    ap (λ n. bit_at n k) halves ∙ moved (pair / 2) k ∙ moved pair (k + 1) ∙ ap (bit_at pair) next in
    omega (
      arith,
      none_of pair (pair / 4) k none,
      far,
      is_pair k,
      is_pair (k + 2),
      ap (bit_at clear) next_too,
      is_clear k (omega arith),
      is_clear (k + 1) (omega arith),
      is_clear (k + 2) (omega arith),
      is_clear (k + 3) (omega arith),
      bit_at-lt bits (k + 3),
    )

module _ (piece : List ℕ) (k bit : ℕ) (is : bit ≡ cond (digit_at piece k) 0 1) where
  -- what the bits tell of bytes
  other_is_set : digit_at piece k ≡ false → bit ≡ 1
  other_is_set other = is ∙ ap (λ t. cond t 0 1) other

  digit_is_clear : digit_at piece k ≡ true → bit ≡ 0
  digit_is_clear digit = is ∙ ap (λ t. cond t 0 1) digit

pub set_is_other : (piece : List ℕ) (k bit : ℕ) → bit ≡ cond (digit_at piece k) 0 1 → bit ≡ 1 →
    digit_at piece k ≡ false
set_is_other piece k bit is set = elim (cases_Bool (digit_at piece k)) [
  | inl digit ↦ absurd (omega (arith, rw digit at is, set))
  | inr other ↦ other
]

pub clear_is_digit : (piece : List ℕ) (k bit : ℕ) → bit ≡ cond (digit_at piece k) 0 1 → bit ≡ 0 →
    digit_at piece k ≡ true
clear_is_digit piece k bit is clear = elim (cases_Bool (digit_at piece k)) [
  | inl digit ↦ digit
  | inr other ↦ absurd (omega (arith, rw other at is, clear))
]

pub tidy_of : (piece : List ℕ) (from rest : ℕ) → Tells piece from rest → get_or piece (from - 1) 0 ≤ 57 →
    is_blank (get_or piece from 0) ≡ true →
    ((k : ℕ) → k < 64 → bit_at rest k ≡ 1 → is_blank (get_or piece (from + 1 + k) 0) ≡ true)
    → AreApart rest → AreShort rest → IsTidy piece from
tidy_of piece from rest tells before here blanks apart short =
    let first : from + 1 + 0 ≡ from + 1 = omega arith in
    record {
      before = before;
      here = here;
      blank = λ k l other. blanks k l (other_is_set piece _ _ (tells k l) other);
      first = ap (digit_at piece) (sym first) ∙ clear_is_digit piece _ _ (tells 0 (omega arith)) apart.lowest;
      alone = λ k l other.
          clear_is_digit piece _ _ (tells (k + 1) (omega arith))
          (apart.next k l (other_is_set piece _ _ (tells k (omega arith)) other));
      short = λ k l one two three.
          set_is_other piece _ _ (tells (k + 3) (omega arith))
          (short k l (digit_is_clear piece _ _ (tells k (omega arith)) one)
          (digit_is_clear piece _ _ (tells (k + 1) (omega arith)) two)
          (digit_is_clear piece _ _ (tells (k + 2) (omega arith)) three));
    }
