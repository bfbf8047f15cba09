-- The numbers of a tidy block.
use Rattle.std.proofs.Common.{◌≡◌, ℕ, zero, suc, ◌+◌, ◌-◌, ◌*◌, ◌<◌, ◌≤◌, true, false, List, get_or, sym, ap, ◌∙◌, subst, inl, inr, arith}
use Rattle.std.proofs.lemmas.Bool.{cases_lt, true≢false}
use Rattle.std.specs.Char.{is_ascii_digit}
use Rattle.ra_token.specs.Runs.{digit_at, is_blank}
use Rattle.ra_token.specs.Scan.{digits_worth}
use Rattle.ra_token.specs.Short.{IsTidy, short_worth}
use Rattle.ra_token.proofs.Eight.{digits_none, digits_more}
use Rattle.ra_token.proofs.RunLaws.{blank_is_no_digit}

-- the worth at an index, by the three bytes up to it
pub worth_at : (bytes : List ℕ) (k last before first : ℕ) → get_or bytes k 0 ≡ last → get_or bytes (k - 1) 0 ≡ before →
    get_or bytes (k - 2) 0 ≡ first → short_worth bytes k ≡ (last - 48) + (before - 48) * 10
    + (first - 48 - (48 - before)) * 100
unfolding short_worth
worth_at bytes k last before first one two three =
    let worth : ℕ → ℕ → ℕ → ℕ = λ a b c. (a - 48) + (b - 48) * 10 + (c - 48 - (48 - b)) * 100 in
    ap (λ a. worth a (get_or bytes (k - 1) 0) (get_or bytes (k - 2) 0)) one
    ∙ ap (λ b. worth last b (get_or bytes (k - 2) 0)) two ∙ ap (worth last before) three

blank_small : (byte : ℕ) → is_blank byte ≡ true → byte ≤ 32
blank_small byte blank = grind arith

module _ (byte : ℕ) (digit : is_ascii_digit byte ≡ true) where
  digit_large : 48 ≤ byte
  digit_large = grind arith

  pub digit_small : byte ≤ 57
  digit_small = grind arith

module _ (piece : List ℕ) where
  -- the last of a few digits after a blank
  byte_at : (i j : ℕ) → i ≡ j → get_or piece i 0 ≡ get_or piece j 0
  byte_at i j same = ap (λ k. get_or piece k 0) same

  pub short_is : (at count : ℕ) → 0 < count → count ≤ 3 → is_blank (get_or piece at 0) ≡ true →
      get_or piece (at - 1) 0 ≤ 57 → ((k : ℕ) → k < count → digit_at piece (at + 1 + k) ≡ true) →
      short_worth piece (at + count) ≡ digits_worth piece (at + 1) count
  short_is at zero some few blank before digits = absurd (omega arith)
  short_is at (suc zero) some few blank before digits =
      omega (
        arith,
        worth_at piece (at + 1) (get_or piece (at + 1 + 0) 0) (get_or piece at 0) (get_or piece (at - 1) 0)
            (byte_at _ _ (omega arith)) (byte_at _ _ (omega arith)) (byte_at _ _ (omega arith)),
        digits_more piece (at + 1) 0,
        digits_none piece (at + 1),
        blank_small (get_or piece at 0) blank,
        before,
      )
  short_is at (suc (suc zero)) some few blank before digits =
      omega (
        arith,
        worth_at piece (at + 2) (get_or piece (at + 1 + 1) 0) (get_or piece (at + 1 + 0) 0) (get_or piece at 0)
            (byte_at _ _ (omega arith)) (byte_at _ _ (omega arith)) (byte_at _ _ (omega arith)),
        digits_more piece (at + 1) 1,
        digits_more piece (at + 1) 0,
        digits_none piece (at + 1),
        blank_small (get_or piece at 0) blank,
      )
  short_is at (suc (suc (suc zero))) some few blank before digits =
      omega (
        arith,
        worth_at piece (at + 3) (get_or piece (at + 1 + 2) 0) (get_or piece (at + 1 + 1) 0)
            (get_or piece (at + 1 + 0) 0)
            (byte_at _ _ (omega arith)) (byte_at _ _ (omega arith)) (byte_at _ _ (omega arith)),
        digits_more piece (at + 1) 2,
        digits_more piece (at + 1) 1,
        digits_more piece (at + 1) 0,
        digits_none piece (at + 1),
        digit_large (get_or piece (at + 1 + 1) 0) (digits 1 (omega arith)),
      )
  short_is at (suc (suc (suc (suc n)))) some few blank before digits = absurd (omega arith)

-- after a blank of a tidy block comes a digit
digit_next : (piece : List ℕ) (from at : ℕ) → IsTidy piece from → from ≤ at → at < from + 64 →
    is_blank (get_or piece at 0) ≡ true → digit_at piece (at + 1) ≡ true
digit_next piece from at tidy low high blank = elim (cases_lt from at) [
  | inl after ↦ (
      let j : ℕ = at - from - 1 in
      let here : at ≡ from + 1 + (at - from - 1) = omega arith in
      let next : from + 1 + (at - from - 1 + 1) ≡ at + 1 = omega arith in
      subst (λ k. digit_at piece k ≡ true) next
      (tidy.alone (at - from - 1) (omega arith)
      (subst (λ k. digit_at piece k ≡ false) here (blank_is_no_digit (get_or piece at 0) blank)))
      )
  | inr same ↦ (
      subst (λ k. digit_at piece k ≡ true) (omega arith) tidy.first
      )
]

-- so the next bit is not the one directly after it
pub some_digits : (piece : List ℕ) (from at bit : ℕ) → IsTidy piece from → from ≤ at → at < from + 1 + bit → bit < 64 →
    is_blank (get_or piece at 0) ≡ true → digit_at piece (from + 1 + bit) ≡ false → 0 < from + bit - at
some_digits piece from at bit tidy low after below blank other = elim (cases_lt at (from + bit)) [
  | inl more ↦ omega arith
  | inr none ↦ (
      let here : from + 1 + bit ≡ at + 1 = omega arith in
      absurd (true≢false
      (sym (digit_next piece from at tidy low (omega arith) blank) ∙ ap (digit_at piece) (sym here) ∙ other))
      )
]

-- and it is at most three digits after it
pub few_digits : (piece : List ℕ) (from at bit : ℕ) → IsTidy piece from → from ≤ at → bit < 64 →
    ((k : ℕ) → k < from + bit - at → digit_at piece (at + 1 + k) ≡ true) → from + bit - at ≤ 3
few_digits piece from at bit tidy low below digits = elim (cases_lt 3 (from + bit - at)) [
  | inl many ↦ (
      let k : ℕ = at - from in
      let digit : (j : ℕ) → j ≤ 3 → digit_at piece (from + 1 + (at - from + j)) ≡ true =
      λ j few.
      (let here : at + 1 + j ≡ from + 1 + (at - from + j) = omega arith in
      subst (λ i. digit_at piece i ≡ true) here (digits j (omega arith))) in
      let zeroth : from + 1 + (at - from + 0) ≡ from + 1 + (at - from) = omega arith in
      absurd (true≢false (sym (digit 3 (omega arith)) ∙ (tidy.short (at - from) (omega arith)
      (subst (λ i. digit_at piece i ≡ true) zeroth (digit 0 (omega arith)))
      (digit 1 (omega arith)) (digit 2 (omega arith)))))
      )
  | inr few ↦ omega arith
]

module _ (piece : List ℕ) (from : ℕ) where
  -- the next of its bytes that is not a digit is a blank
  pub blank_next : (bit : ℕ) → IsTidy piece from → bit < 64 → digit_at piece (from + 1 + bit) ≡ false →
      is_blank (get_or piece (from + 1 + bit) 0) ≡ true
  blank_next bit tidy below other = tidy.blank bit below other

  -- what is before it is a digit
  pub digit_last : (at bit : ℕ) → from ≤ at → 0 < from + bit - at →
      ((k : ℕ) → k < from + bit - at → digit_at piece (at + 1 + k) ≡ true) → get_or piece (from + 1 + bit - 1) 0 ≤ 57
  digit_last at bit low some digits =
      let here : at + 1 + (from + bit - at - 1) ≡ from + 1 + bit - 1 = omega arith in
      subst (λ k. get_or piece k 0 ≤ 57) here (digit_small _ (digits (from + bit - at - 1) (omega arith)))
