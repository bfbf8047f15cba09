-- Places of a ring.
use Rattle.std.proofs.Common.{◌≡◌, ℕ, ◌+◌, ◌*◌, ◌/◌, ◌%◌, ◌<◌, ◌≤◌, List, length, take, drop, ap, ◌∙◌, arith}
use Rattle.std.proofs.Math.Nat.{mod-add-div', mod-eq_of_lt}
use Rattle.std.proofs.lemmas.Simd.{length-chunk, get_or-chunk}
use Rattle.ra_shift.specs.Windows.{IsRingPart}
use Rattle.std.proofs.lemmas.Nat.{mod-mul-add}

-- some places on, before the end
pub place_on : (x j from n : ℕ) → x % n ≡ from → from + j < n → (x + j) % n ≡ from + j
place_on x j from n is within = grind (arith, mod-add-div', mod-mul-add)

-- the end is the beginning
pub place_at_end : (x j from n : ℕ) → x % n ≡ from → from + j ≡ n → 0 < n → (x + j) % n ≡ 0
place_at_end x j from n is end some =
    let more : (x / n + 1) * n ≡ x / n * n + n = grind arith in
    ap (λ y. y % n) (omega (arith, mod-add-div' x n, is, more)) ∙ mod-mul-add (x / n + 1) n 0 some

-- a part that doesn't reach the end
pub part_inside : (ring : List ℕ) (start n m : ℕ) → n ≡ m → start + n ≤ length ring →
    IsRingPart ring start n (take m (drop start ring))
part_inside ring start n m same within = grind (arith, length-chunk, get_or-chunk, mod-eq_of_lt)
