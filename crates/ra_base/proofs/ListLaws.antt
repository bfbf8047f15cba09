-- Sums and searches over the elements of a list, f j x being the term of the element x at place j.
use Rattle.std.proofs.Common.{◌≡◌, ℕ, zero, suc, ◌+◌, ◌<◌, ◌≤◌, List, [], ◌∷◌, ◌++◌, length, get_or, set, take, sum}
use Rattle.std.proofs.Common.{Option, refl, ap, ◌∙◌, add-one, arith, length-append, get_or-set_other}
use Rattle.std.proofs.Common.{get_or-set_same, get_or-take}
use Rattle.std.proofs.lemmas.List.{get_or_append_left}
use Rattle.std.proofs.Math.Seq.{get_or-append_seam}
use Rattle.std.proofs.lemmas.Grind.{common_steps}
use Rattle.ra_base.specs.Sums.{total}
use Rattle.ra_base.specs.Searches.{or_else, first}
use Rattle.ra_base.proofs.Sums.{total_more, total_same, total_change}
use Rattle.ra_base.proofs.Searches.{first_more, first_same}

-- one element more
pub total_push : {X : Type 0} → (xs : List X) (x d : X) (f : ℕ → X → ℕ) →
    total (length (xs ++ x ∷ [])) (λ j. f j (get_or (xs ++ x ∷ []) j d)) ≡ total (length xs) (λ j. f j (get_or xs j d))
    + f (length xs) x
total_push xs x d f = grind (arith, length-append, total_more, total_same, get_or_append_left, get_or-append_seam)

pub first_push : {X Y : Type 0} → (xs : List X) (x d : X) (f : ℕ → X → Option Y) →
    first (length (xs ++ x ∷ [])) (λ j. f j (get_or (xs ++ x ∷ []) j d)) ≡
    or_else (first (length xs) (λ j. f j (get_or xs j d))) (f (length xs) x)
first_push xs x d f = grind (arith, length-append, first_more, first_same, get_or_append_left, get_or-append_seam)

-- a write at p
pub total_set : {X : Type 0} → (n p : ℕ) (xs : List X) (y d : X) (f : ℕ → X → ℕ) → p < n → p < length xs →
    total n (λ k. f k (get_or (set xs p y) k d)) + f p (get_or xs p d) ≡ total n (λ k. f k (get_or xs k d)) + f p y
total_set n p xs y d f within there =
    ap (λ v. total n (λ k. f k (get_or (set xs p y) k d)) + v) refl
    ∙ total_change n p (λ k. f k (get_or (set xs p y) k d)) _ within
    (λ k h apart. rw (get_or-set_other xs p k y d apart))
    ∙ ap (λ v. total n _ + f p v) (get_or-set_same xs p y d there)

-- the front of a list
pub total_take : {X : Type 0} → (n m : ℕ) (xs : List X) (d : X) (f : ℕ → X → ℕ) → n ≤ m →
    total n (λ k. f k (get_or (take m xs) k d)) ≡ total n (λ k. f k (get_or xs k d))
total_take n m xs d f few = grind (arith, total_same, get_or-take)

-- a list's own sum
sum_more : (xs : List ℕ) (n : ℕ) → n < length xs → sum (take (n + 1) xs) ≡ sum (take n xs) + get_or xs n 0
sum_more xs n within = grind (arith, common_steps)

pub total_sum : (n : ℕ) (xs : List ℕ) → n ≤ length xs → total n (λ k. get_or xs k 0) ≡ sum (take n xs)
unfolding total
total_sum zero xs few = refl
total_sum (suc n) xs few =
    omega (arith, total_sum n xs (omega arith), sum_more xs n few, ap (λ k. sum (take k xs)) (add-one n))
