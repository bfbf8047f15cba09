-- How far one number of a ring is from another, and the marks of a window.
use Rattle.std.proofs.Common.{◌≡◌, ◌≢◌, ◌↔◌, ℕ, ◌+◌, ◌-◌, ◌*◌, ◌/◌, ◌%◌, ◌^◌, ◌<◌, ◌≤◌, bit_or, sym, ap, ◌∙◌}
use Rattle.std.proofs.Common.{arith, w64}
use Rattle.std.specs.Int.{bit_at, trailing_zeros}
use Rattle.std.proofs.Math.Nat.{mod-eq_of_lt}
use Rattle.std.proofs.lemmas.Nat.{shr-shr, shr_le, mod-mul-add}
use Rattle.std.proofs.lemmas.Nat.Bits.{bit_at-zero, bit_at-trailing_zeros, bit_at_set_same, bit_at_set_other}

module _ (first : ℕ) where
  -- k places on from a number of a ring
  ring_before : (k count : ℕ) → first + k < count → (first + k) % count ≡ first + k
  ring_before k count below = mod-eq_of_lt {n = first + k} {m = count} below

  ring_past : (k count : ℕ) → first < count → k < count → count ≤ first + k → (first + k) % count ≡ first + k - count
  ring_past k count f b past = grind (arith, mod-mul-add)

  module _ (at count k : ℕ) (f : first < count) (a : at < count) (b : k < count) where
    pub place_on : first ≤ at → ((first + k) % count ≡ at) ↔ (k ≡ at - first)
    place_on up = grind (arith, ring_before, ring_past)

    pub place_round : at < first → ((first + k) % count ≡ at) ↔ (k ≡ at + count - first)
    place_round down = grind (arith, ring_before, ring_past)

module _ (marks : ℕ) where
  module _ (place k : ℕ) (below : place < 64) where
    -- a mark more
    pub marked_here : k ≡ place → bit_at (bit_or marks (1 * 2 ^ place % 2 ^ 64)) k ≡ 1
    marked_here same =
        ap (bit_at (bit_or marks (1 * 2 ^ place % 2 ^ 64))) same ∙ bit_at_set_same w64 marks place below

    pub marked_others : k ≢ place → bit_at (bit_or marks (1 * 2 ^ place % 2 ^ 64)) k ≡
        bit_at marks k
    marked_others apart = bit_at_set_other w64 marks place below k apart

  module _ (from : ℕ) where
    -- the marks from a place on
    rest_at : (j : ℕ) → bit_at (marks / 2 ^ from) j ≡ bit_at marks (from + j)
    rest_at j = ap (λ n. n % 2) (shr-shr marks from j)

    pub rest_none : (k : ℕ) → marks / 2 ^ from ≡ 0 → from ≤ k → bit_at marks k ≢ 1
    rest_none k none after set =
        let at : bit_at (marks / 2 ^ from) (k - from) ≡ bit_at marks k = rest_at (k - from)
        ∙ ap (bit_at marks) (omega arith) in
        let zero_at : bit_at (marks / 2 ^ from) (k - from) ≡ 0 = ap (λ n. bit_at n (k - from)) none
        ∙ bit_at-zero (k - from) in
        absurd (omega (arith, at, zero_at, set))

    module _ (k : ℕ) (fits : marks < 2 ^ 64) (some : 0 < marks / 2 ^ from) where
      pub rest_before : from ≤ k → k < from + trailing_zeros w64 (marks / 2 ^ from) → bit_at marks k ≢ 1
      rest_before after before set =
          let rest : ℕ = marks / 2 ^ from in
          let first = bit_at-trailing_zeros w64 rest some (omega (arith, shr_le marks from)) in
          let at : bit_at rest (k - from) ≡ bit_at marks k = rest_at (k - from)
          ∙ ap (bit_at marks) (omega arith) in
          absurd (omega (arith, at, first.2 (k - from) (omega arith), set))

      pub rest_first : k ≡ from + trailing_zeros w64 (marks / 2 ^ from) → bit_at marks k ≡ 1
      rest_first is =
          let rest : ℕ = marks / 2 ^ from in
          let first = bit_at-trailing_zeros w64 rest some (omega (arith, shr_le marks from)) in
          ap (bit_at marks) is ∙ sym (rest_at (trailing_zeros w64 rest)) ∙ first.1
