-- Laws of `total`, the sum of a function over the numbers below n.
use Rattle.std.proofs.Common.{inl, inr, ◌≡◌, ℕ, zero, suc, ◌+◌, ◌-◌, ◌*◌, ◌<◌, ◌≤◌, ◌≢◌, Bool, true, false, cond, eqb}
use Rattle.std.proofs.Common.{sym, refl}
use Rattle.std.proofs.Common.{ap, ◌∙◌, ⊎_elim, add-one, add-suc, add-zero, zero-mul, suc-mul, arith, eq-eqb, ne_eqb}
use Rattle.std.proofs.Common.{le_trans, le_refl, mul-le-mul_right}
use Rattle.std.proofs.lemmas.Bool.{cases_lt, cases_eq, cond-true, cond-false}
use Rattle.ra_base.specs.Sums.{total}

pub total_none : (f : ℕ → ℕ) → total 0 f ≡ 0
unfolding total
total_none f = refl

pub total_suc : (n : ℕ) (f : ℕ → ℕ) → total (suc n) f ≡ total n f + f n
unfolding total
total_suc n f = refl

-- one more, as a loop counts
pub total_more : (n : ℕ) (f : ℕ → ℕ) → total (n + 1) f ≡ total n f + f n
unfolding total
total_more n f = rw add-one refl

pub total_same : (n : ℕ) (f g : ℕ → ℕ) → ((k : ℕ) → k < n → f k ≡ g k) → total n f ≡ total n g
unfolding total
total_same zero f g same = refl
total_same (suc n) f g same = omega (arith, total_same n f g (λ k h. same k (omega arith)), same n (omega arith))

pub total_zero : (n : ℕ) (f : ℕ → ℕ) → ((k : ℕ) → k < n → f k ≡ 0) → total n f ≡ 0
unfolding total
total_zero zero f zeros = refl
total_zero (suc n) f zeros = omega (arith, total_zero n f (λ k h. zeros k (omega arith)), zeros n (omega arith))

-- f + u and g + v agree at each place, so their sums do
pub total_balance : (n : ℕ) (f u g v : ℕ → ℕ) → ((k : ℕ) → k < n → f k + u k ≡ g k + v k) →
    total n f + total n u ≡ total n g + total n v
unfolding total
total_balance zero f u g v each = refl
total_balance (suc n) f u g v each =
    omega (arith, total_balance n f u g v (λ k h. each k (omega arith)), each n (omega arith))

pub total_le : (n : ℕ) (f g : ℕ → ℕ) → ((k : ℕ) → k < n → f k ≤ g k) → total n f ≤ total n g
unfolding total
total_le zero f g each = omega arith
total_le (suc n) f g each = omega (arith, total_le n f g (λ k h. each k (omega arith)), each n (omega arith))

pub total_bound : (n b : ℕ) (f : ℕ → ℕ) → ((k : ℕ) → k < n → f k ≤ b) → total n f ≤ n * b
unfolding total
total_bound zero b f each = omega arith
total_bound (suc n) b f each = omega (arith, total_bound n b f (λ k h. each k (omega arith)), each n (omega arith))

-- f and g differ at i alone
pub total_change : (n i : ℕ) (f g : ℕ → ℕ) → i < n → ((k : ℕ) → k < n → k ≢ i → f k ≡ g k) →
    total n f + g i ≡ total n g + f i
unfolding total
total_change zero i f g within same = omega arith
total_change (suc n) i f g within same = grind (arith, total_change n i f g, total_same n f g)

-- f and g differ at i and at j alone
pub total_change_two : (n i j : ℕ) (f g : ℕ → ℕ) → i < n → j < n → i ≢ j →
    ((k : ℕ) → k < n → k ≢ i → k ≢ j → f k ≡ g k) → total n f + (g i + g j) ≡ total n g + (f i + f j)
total_change_two n i j f g i_within j_within apart same =
    let h = λ (k : ℕ). cond (eqb k i) (g k) (f k) in
    let h_i = cond-true (eqb i i) (g i) (f i) (eq-eqb i i refl) in
    let h_other = λ (k : ℕ) (d : k ≢ i). cond-false (eqb k i) (g k) (f k) (ne_eqb k i d) in
    let first = total_change n i f h i_within (λ k w d. sym (h_other k d)) in
    let second =
    total_change n j h g j_within
    (λ k w d. elim (cases_eq k i) [
      | inl e ↦ cond-true (eqb k i) (g k) (f k) (eq-eqb k i e)
      | inr e ↦ h_other k e ∙ same k w e d
    ]) in
    omega (arith, first, second, h_i, h_other j (λ e. apart (sym e)))

pub total_of_sum : (n : ℕ) (f g : ℕ → ℕ) → total n (λ k. f k + g k) ≡ total n f + total n g
unfolding total
total_of_sum zero f g = refl
total_of_sum (suc n) f g = omega (arith, total_of_sum n f g)

pub total_times : (n c : ℕ) (f : ℕ → ℕ) → total n (λ k. c * f k) ≡ c * total n f
unfolding total
total_times zero c f = omega arith
total_times (suc n) c f = omega (arith, total_times n c f)

pub total_constant : (n c : ℕ) → total n (λ k. c) ≡ n * c
unfolding total
total_constant zero c = omega arith
total_constant (suc n) c = omega (arith, total_constant n c)

-- the sum of no more than m terms of at most b
pub total_within : (n m b : ℕ) (f : ℕ → ℕ) → n ≤ m → ((k : ℕ) → k < n → f k ≤ b) → total n f ≤ m * b
total_within n m b f few each = le_trans (total_bound n b f each) (mul-le-mul_right b few)

-- the first n terms are a part of the first m
pub total_grows : (n m : ℕ) (f : ℕ → ℕ) → n ≤ m → total n f ≤ total m f
unfolding total
total_grows n zero f few = let none : n ≡ 0 = omega arith in rw none (le_refl (total 0 f))
total_grows n (suc m) f few = ⊎_elim
    (λ below. omega (arith, total_grows n m f (omega arith)))
    (λ above. let all : n ≡ suc m = omega arith in rw all (le_refl (total (suc m) f)))
    (cases_lt n (suc m))

-- all terms but that at i are zero
pub total_only : (n i : ℕ) (f : ℕ → ℕ) → i < n → ((k : ℕ) → k < n → k ≢ i → f k ≡ 0) → total n f ≡ f i
total_only n i f within zeros =
    omega (arith, total_change n i f _ within zeros, total_zero n _ (λ k h. refl))

module _ (n i : ℕ) (f : ℕ → ℕ) where
  pub total_term : i < n → f i ≤ total n f
  total_term within = omega (arith, total_grows _ n f within, total_suc i f)

  -- if the sum is zero, each term is
  pub total_zero_at : total n f ≡ 0 → i < n → f i ≡ 0
  total_zero_at zeros within = omega (arith, total_term within)

  -- the terms so far and the next are a part of the sum
  pub total_part : i < n → total i f + f i ≤ total n f
  total_part within = omega (arith, total_grows _ n f within, total_suc i f)

  -- the term at i alone
  pub total_point : i < n → total n (λ k. cond (eqb k i) (f k) 0) ≡ f i
  total_point within =
      total_only n i _ within (λ k h d. cond-false (eqb k i) _ 0 (ne_eqb k i d))
      ∙ cond-true _ _ 0 (eq-eqb i i refl)

-- two terms
pub total_terms : (n i j : ℕ) (f : ℕ → ℕ) → i < j → j < n → f i + f j ≤ total n f
total_terms n i j f before within =
    omega (arith, total_grows _ n f within, total_suc j f, total_term j i f before)

-- a sum above zero has a term above zero
pub total_positive : (n : ℕ) (f : ℕ → ℕ) → 0 < total n f → (k : ℕ) × (k < n) × (0 < f k)
unfolding total
total_positive zero f positive = absurd (omega arith)
total_positive (suc n) f positive = grind (arith, total_positive n f)

-- at most one term is above zero
pub total_at_most_one : (n b : ℕ) (f : ℕ → ℕ) → ((k : ℕ) → k < n → f k ≤ b) →
    ((i j : ℕ) → i < n → j < n → 0 < f i → 0 < f j → i ≡ j) → total n f ≤ b
total_at_most_one n b f each one = ⊎_elim
    (λ positive.
    let found = total_positive n f positive in
    omega (
      arith,
      each found.0 found.1,
      total_only n found.0 f found.1
          (λ k h d. elim (cases_lt 0 _) [
            | inl more ↦ absurd (d (one k found.0 h found.1 more found.2))
            | inr none ↦ omega arith
          ]),
    ))
    (λ none. omega arith)
    (cases_lt 0 _)

-- sums by rows and by columns
pub total_swap : (m n : ℕ) (f : ℕ → ℕ → ℕ) → total m (λ i. total n (f i)) ≡ total n (λ j. total m (λ i. f i j))
unfolding total
total_swap zero n f = sym (total_zero n (λ j. 0) (λ k h. refl))
total_swap (suc m) n f = omega (arith, total_swap m n f, total_of_sum n (λ j. total m (λ i. f i j)) (f m))

-- with ℕ's minus: what f has above g in sum is at most what it has above g place by place
pub total_minus : (n : ℕ) (f g : ℕ → ℕ) → total n f - total n g ≤ total n (λ k. f k - g k)
unfolding total
total_minus zero f g = omega arith
total_minus (suc n) f g = omega (arith, total_minus n f g)

-- with the sum of f taken c times
pub total_times_minus : (n c : ℕ) (f g : ℕ → ℕ) → c * total n f - total n g ≤ total n (λ k. c * f k - g k)
total_times_minus n c f g = omega (arith, total_minus n (λ k. c * f k) g, total_times n c f)

-- the first m terms and the next n
pub total_split : (m n : ℕ) (f : ℕ → ℕ) → total (m + n) f ≡ total m f + total n (λ k. f (m + k))
unfolding total
total_split m zero f = ap (λ k. total k f) (add-zero m) ∙ sym (add-zero _)
total_split m (suc n) f = rw add-suc (omega (arith, total_split m n f))

-- one term at the front
pub total_front : (n : ℕ) (f : ℕ → ℕ) → total (suc n) f ≡ f 0 + total n (λ k. f (suc k))
unfolding total
total_front zero f = omega arith
total_front (suc n) f = omega (arith, total_front n f)

pub total_times_right : (n c : ℕ) (f : ℕ → ℕ) → total n (λ k. f k * c) ≡ total n f * c
unfolding total
total_times_right zero c f = omega arith
total_times_right (suc n) c f = omega (arith, total_times_right n c f)

-- weighed sums of rows, by columns
pub total_times_swap : (m n : ℕ) (w : ℕ → ℕ) (f : ℕ → ℕ → ℕ) → total m (λ i. w i * total n (f i)) ≡
    total n (λ j. total m (λ i. w i * f i j))
total_times_swap m n w f = total_same m _ _
    (λ i h. sym (total_times n _ _)) ∙ total_swap m n _

-- the terms that pass and those that fail
pub total_parts : (n : ℕ) (test : ℕ → Bool) (f : ℕ → ℕ) → total n f ≡ total n (λ k. cond (test k) (f k) 0)
    + total n (λ k. cond (test k) 0 (f k))
total_parts n test f = total_same n f _
    (λ k h. both_parts (test k) _) ∙ total_of_sum n _ _
  where
    both_parts : (t : Bool) (x : ℕ) → x ≡ cond t x 0 + cond t 0 x
    both_parts true x = omega arith
    both_parts false x = omega arith

-- one term less, and none more
pub total_lt : (n i : ℕ) (f g : ℕ → ℕ) → i < n → f i < g i → ((k : ℕ) → k < n → f k ≤ g k) → total n f < total n g
unfolding total
total_lt zero i f g within less each = absurd (omega arith)
total_lt (suc n) i f g within less each = grind (arith, total_lt n i f g, total_le n f g)

-- a sum by groups: each place is in the group that g gives it
pub total_grouped : (m n : ℕ) (g f : ℕ → ℕ) → ((k : ℕ) → k < n → g k < m) →
    total m (λ i. total n (λ k. cond (eqb (g k) i) (f k) 0)) ≡ total n f
total_grouped m n g f within = total_swap m n _
    ∙ total_same n _ f (λ k h. one_group k h)
  where
    one_group : (k : ℕ) → k < n → total m (λ i. cond (eqb (g k) i) (f k) 0) ≡ f k
    one_group k h = total_only m (g k) (λ i. cond (eqb (g k) i) (f k) 0) (within k h)
        (λ i i_within apart. cond-false (eqb (g k) i) (f k) 0 (ne_eqb (g k) i (λ same. apart (sym same))))
        ∙ cond-true (eqb (g k) (g k)) (f k) 0 (eq-eqb (g k) (g k) refl)

-- a place below the sum lies within one term, after the terms before it
pub total_region : (n x : ℕ) (f : ℕ → ℕ) → x < total n f → (i : ℕ) × (i < n) × (total i f ≤ x) × (x < total i f + f i)
unfolding total
total_region zero x f below = absurd (omega arith)
total_region (suc n) x f below = grind (arith, total_region n x f)

-- rows of n terms each, one after another
pub total_rows : (m n : ℕ) (f : ℕ → ℕ) → total (m * n) f ≡ total m (λ i. total n (λ j. f (i * n + j)))
unfolding total
total_rows zero n f = rw (zero-mul n)
total_rows (suc m) n f = rw (suc-mul m n, total_split _ n f, total_rows m n f) refl

-- the sum of no term, and of one more: what a loop needs
pub ruleset sums = (total_none, total_more)
