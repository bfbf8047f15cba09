-- Laws of `greatest`, the greatest value of a function over the numbers below n.
use Rattle.std.proofs.Common.{◌≡◌, ℕ, zero, suc, ◌+◌, ◌<◌, ◌≤◌, max, eqb, refl, ap, inl, inr, add-one, arith}
use Rattle.std.proofs.Common.{eq-eqb, le_trans}
use Rattle.std.proofs.lemmas.Bool.{cases_lt, eqb-true, both_ways}
use Rattle.ra_base.specs.Sums.{greatest, count}
use Rattle.ra_base.proofs.Counts.{count_zero_at, count_positive}

pub greatest_none : (f : ℕ → ℕ) → greatest 0 f ≡ 0
unfolding greatest
greatest_none f = refl

module _ (n : ℕ) (f : ℕ → ℕ) where
  pub greatest_suc : greatest (suc n) f ≡ max (greatest n f) (f n)
  unfolding greatest
  greatest_suc = refl

  -- one more, as a loop counts
  pub greatest_more : greatest (n + 1) f ≡ max (greatest n f) (f n)
  unfolding greatest
  greatest_more = rw add-one refl

  -- one more, if it is above the greatest so far, and if it isn't
  pub greatest_above : greatest n f ≤ f n → greatest (n + 1) f ≡ f n
  greatest_above above = omega (arith, greatest_more)

  pub greatest_kept : f n ≤ greatest n f → greatest (n + 1) f ≡ greatest n f
  greatest_kept below = omega (arith, greatest_more)

-- the least bound: each value is within, and no lower bound serves
pub greatest_at : (n i : ℕ) (f : ℕ → ℕ) → i < n → f i ≤ greatest n f
unfolding greatest
greatest_at zero i f within = absurd (omega arith)
greatest_at (suc n) i f within = grind (arith, greatest_at n i f)

pub greatest_least : (n b : ℕ) (f : ℕ → ℕ) → ((k : ℕ) → k < n → f k ≤ b) → greatest n f ≤ b
unfolding greatest
greatest_least zero b f each = omega arith
greatest_least (suc n) b f each =
    omega (arith, greatest_least n b f (λ k h. each k (omega arith)), each n (omega arith))

-- some value is the greatest
pub greatest_reached : (n : ℕ) (f : ℕ → ℕ) → 0 < n → (k : ℕ) × (k < n) × (f k ≡ greatest n f)
unfolding greatest
greatest_reached zero f some = absurd (omega arith)
greatest_reached (suc n) f some = elim (cases_lt (f n) (greatest n f)) [
  | inl above ↦ elim (cases_lt 0 n) [
    | inl more ↦ let found = greatest_reached n f more in (found.0, omega arith, omega (arith, found.2))
    | inr none ↦ let is_zero : n ≡ 0 = omega arith in absurd (omega (arith, ap (λ m. greatest m f) is_zero))
  ]
  | inr below ↦ (n, omega arith, omega arith)
]

pub greatest_same : (n : ℕ) (f g : ℕ → ℕ) → ((k : ℕ) → k < n → f k ≡ g k) → greatest n f ≡ greatest n g
unfolding greatest
greatest_same zero f g same = refl
greatest_same (suc n) f g same = omega (arith, greatest_same n f g (λ k h. same k (omega arith)), same n (omega arith))

pub greatest_le : (n : ℕ) (f g : ℕ → ℕ) → ((k : ℕ) → k < n → f k ≤ g k) → greatest n f ≤ greatest n g
unfolding greatest
greatest_le zero f g each = omega arith
greatest_le (suc n) f g each = omega (arith, greatest_le n f g (λ k h. each k (omega arith)), each n (omega arith))

-- a value that bounds all is the greatest
pub greatest_is : (n i : ℕ) (f : ℕ → ℕ) → i < n → ((k : ℕ) → k < n → f k ≤ f i) → greatest n f ≡ f i
greatest_is n i f within each = omega (arith, greatest_at n i f within, greatest_least n _ f each)

-- no value has more than b of those up to a bound, and some value has b
pub greatest_by_counts : (n b top : ℕ) (f : ℕ → ℕ) → greatest n f ≤ top → ((v : ℕ) → b < v → v ≤ top →
    count n (λ k. eqb (f k) v) ≡ 0) → (0 < b → 0 < count n (λ k. eqb (f k) b)) → greatest n f ≡ b
greatest_by_counts n b top f below none some =
    let upper = greatest_least n b f (λ k h. elim (cases_lt b _) [
      | inl above ↦ absurd (both_ways _
          (count_zero_at n k _ (none _ above (le_trans (greatest_at n k f h) below)) h)
          (eq-eqb _ _ refl))
      | inr within ↦ within
    ]) in
    elim (cases_lt 0 b) [
      | inl positive ↦ let found = count_positive n _ (some positive) in
          omega (arith, upper, greatest_at n found.0 f found.1, eqb-true _ b found.2)
      | inr zeros ↦ omega (arith, upper)
    ]

-- what a loop that takes the greatest needs
pub ruleset greatests = (greatest_none, greatest_more)
