-- The marks of a window from a place on.
use Rattle.std.proofs.Common.{◌≡◌, ◌≢◌, ℕ, ◌+◌, ◌-◌, ◌/◌, ◌%◌, ◌^◌, ◌<◌, ◌≤◌, sym, ap, ◌∙◌, arith, w64}
use Rattle.std.specs.Int.{bit_at, trailing_zeros}
use Rattle.std.proofs.lemmas.Nat.{shr-shr, shr_le}
use Rattle.std.proofs.lemmas.Nat.Bits.{bit_at-zero, bit_at-trailing_zeros}

module _ (marks from : ℕ) where
  rest_at : (j : ℕ) → bit_at (marks / 2 ^ from) j ≡ bit_at marks (from + j)
  rest_at j = ap (λ n. n % 2) (shr-shr marks from j)

  pub rest_none : (k : ℕ) → marks / 2 ^ from ≡ 0 → from ≤ k → bit_at marks k ≢ 1
  rest_none k none after set =
      let at : bit_at (marks / 2 ^ from) (k - from) ≡ bit_at marks k = rest_at (k - from)
      ∙ ap (bit_at marks) (omega arith) in
      let zero_at : bit_at (marks / 2 ^ from) (k - from) ≡ 0 = ap (λ n. bit_at n (k - from)) none
      ∙ bit_at-zero (k - from) in
      absurd (omega (arith, at, zero_at, set))

  module _ (k : ℕ) (fits : marks < 2 ^ 64) (some : 0 < marks / 2 ^ from) where
    pub rest_before : from ≤ k → k < from + trailing_zeros w64 (marks / 2 ^ from) → bit_at marks k ≢ 1
    rest_before after before set =
        let rest : ℕ = marks / 2 ^ from in
        let first = bit_at-trailing_zeros w64 rest some (omega (arith, shr_le marks from)) in
        let at : bit_at rest (k - from) ≡ bit_at marks k = rest_at (k - from)
        ∙ ap (bit_at marks) (omega arith) in
        absurd (omega (arith, at, first.2 (k - from) (omega arith), set))

    pub rest_first : k ≡ from + trailing_zeros w64 (marks / 2 ^ from) → bit_at marks k ≡ 1
    rest_first is =
        let rest : ℕ = marks / 2 ^ from in
        let first = bit_at-trailing_zeros w64 rest some (omega (arith, shr_le marks from)) in
        ap (bit_at marks) is ∙ sym (rest_at (trailing_zeros w64 rest)) ∙ first.1
