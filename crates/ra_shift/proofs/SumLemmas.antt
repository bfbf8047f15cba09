-- What is lacking of the terms, from one on.
use Rattle.std.proofs.Common.{◌≡◌, ℕ, ◌+◌, ◌-◌, ◌*◌, ◌%◌, ◌^◌, ◌<◌, ◌≤◌, List, [], ◌∷◌, length, get_or, drop, arith, add-one, drop-cons}
use Rattle.std.proofs.lemmas.List.{drop_all}
use Rattle.ra_shift.specs.declared.blocks.Term.{Term}
use Rattle.ra_shift.specs.Windows.{lacking, amounts}
use Rattle.std.proofs.Math.Nat.{mod-eq_of_lt}

-- no more is lacking than is asked
pub lacking_within : (rows : List ℕ) (terms : List Term) (p : ℕ) → lacking rows terms p ≤ amounts terms
unfolding lacking amounts
lacking_within rows [] p = omega arith
lacking_within rows (t ∷ terms) p = omega (arith, lacking_within rows terms p)

-- the first of the terms that are left
pub lacking_from : (rows : List ℕ) (terms : List Term) (i p : ℕ) (d : Term) → i < length terms
    → lacking rows (drop i terms) p ≡ ((get_or terms i d).amount - get_or rows ((get_or terms i d).row + p) 0)
    + lacking rows (drop (i + 1) terms) p
unfolding lacking
lacking_from rows terms i p d l = grind (arith, drop-cons, add-one)

-- after all terms nothing is left
pub lacking_past : (rows : List ℕ) (terms : List Term) (i p : ℕ) → length terms ≤ i → lacking rows (drop i terms) p ≡ 0
unfolding lacking
lacking_past rows terms i p l = rw (drop_all i terms l)

-- one term more is added without wrapping, and the whole stays the same
pub next_sum : (sum rest here after whole next : ℕ) → rest ≡ here + after → sum + rest ≡ whole → whole < 2 ^ 32
    → next ≡ (sum + here) % 2 ^ 32 → next + after ≡ whole
next_sum sum rest here after whole next r w small n = omega arith

-- a sum and a way at a weight are added without wrapping
pub sum_with_way : (said sum weight weighed read way : ℕ) → said ≡ sum → weighed ≡ weight * read % 2 ^ 32 → read ≡ way
    → sum ≤ 2 ^ 30 → weight * way ≤ 2 ^ 30 → (said + weighed) % 2 ^ 32 ≡ sum + weight * way
sum_with_way said sum weight weighed read way s w r low small = grind (arith, mod-eq_of_lt)
