-- Laws of `count`, how many numbers below n pass a test.
use Rattle.std.proofs.Common.{inl, inr, ◌≡◌, ℕ, ◌+◌, ◌<◌, ◌≤◌, ◌≢◌, Bool, true, false, not, refl, ap, arith}
use Rattle.std.proofs.lemmas.Bool.{cases_lt}
use Rattle.ra_base.specs.Sums.{one_if, count}
use Rattle.ra_base.proofs.Sums.{total_none, total_more, total_same, total_zero, total_zero_at, total_constant, total_le}
use Rattle.ra_base.proofs.Sums.{total_term, total_terms, total_positive, total_at_most_one, total_change}
use Rattle.ra_base.proofs.Sums.{total_change_two, total_of_sum, total_grows, total_bound}

pub one_if_true : (t : Bool) → t ≡ true → one_if t ≡ 1
one_if_true t is = ap one_if is

pub one_if_false : (t : Bool) → t ≡ false → one_if t ≡ 0
one_if_false t is = ap one_if is

pub one_if_le : (t : Bool) → one_if t ≤ 1
one_if_le true = omega arith
one_if_le false = omega arith

pub one_if_positive : (t : Bool) → 0 < one_if t → t ≡ true
one_if_positive true positive = refl
one_if_positive false positive = absurd (omega arith)

pub one_if_zero : (t : Bool) → one_if t ≡ 0 → t ≡ false
one_if_zero true zeros = absurd (omega arith)
one_if_zero false zeros = refl

pub one_if_order : (s t : Bool) → (s ≡ true → t ≡ true) → one_if s ≤ one_if t
one_if_order true t both = omega (arith, one_if_true t (both refl))
one_if_order false t both = omega arith

pub one_if_parts : (t : Bool) → one_if t + one_if (not t) ≡ 1
one_if_parts true = refl
one_if_parts false = refl

pub count_none : (test : ℕ → Bool) → count 0 test ≡ 0
count_none test = total_none _

module _ (n : ℕ) where
  module _ (test : ℕ → Bool) where
    -- one more, as a loop counts
    pub count_more : count (n + 1) test ≡ count n test + one_if (test n)
    count_more = total_more n _

    pub count_yes : test n ≡ true → count (n + 1) test ≡ count n test + 1
    count_yes passes = omega (arith, count_more, one_if_true _ passes)

    pub count_no : test n ≡ false → count (n + 1) test ≡ count n test
    count_no fails = omega (arith, count_more, one_if_false _ fails)

    pub count_le : count n test ≤ n
    count_le = omega (arith, total_bound n 1 _ (λ k h. one_if_le (test k)))

    pub count_zero : ((k : ℕ) → k < n → test k ≡ false) → count n test ≡ 0
    count_zero nones = grind (arith, total_zero, one_if_false)

    pub count_all : ((k : ℕ) → k < n → test k ≡ true) → count n test ≡ n
    count_all each =
        omega (
          arith,
          total_same n _ _ (λ k h. one_if_true _ (each k h)),
          total_constant n 1,
        )

    pub count_positive : 0 < count n test → (k : ℕ) × (k < n) × (test k ≡ true)
    count_positive positive = let found = total_positive n _ positive in
        (found.0, found.1, one_if_positive _ found.2)

    -- if any two that pass are one, at most one passes
    pub count_at_most_one : ((i j : ℕ) → i < n → j < n → test i ≡ true → test j ≡ true → i ≡ j) → count n test ≤ 1
    count_at_most_one one = grind (arith, total_at_most_one, one_if_le, one_if_positive)

    -- those that pass and those that fail
    pub count_parts : count n test + count n (λ k. not (test k)) ≡ n
    count_parts =
        omega (
          arith,
          total_of_sum n (λ k. one_if (test k)) (λ k. one_if (not (test k))),
          total_same n (λ k. one_if (test k) + one_if (not (test k))) (λ k. 1) (λ k h. one_if_parts (test k)),
          total_constant n 1,
        )

  pub count_same : (s t : ℕ → Bool) → ((k : ℕ) → k < n → s k ≡ t k) → count n s ≡ count n t
  count_same s t same = grind (arith, total_same)

  pub count_zero_at : (i : ℕ) (test : ℕ → Bool) → count n test ≡ 0 → i < n → test i ≡ false
  count_zero_at i test nones within = one_if_zero _ (total_zero_at n i _ nones within)

  -- one that passes
  pub count_some : (i : ℕ) (test : ℕ → Bool) → i < n → test i ≡ true → 0 < count n test
  count_some i test within passes =
      omega (arith, total_term n i (λ k. one_if (test k)) within, one_if_true (test i) passes)

  -- two different ones that pass
  pub count_two : (i j : ℕ) (test : ℕ → Bool) → i < n → j < n → i ≢ j → test i ≡ true → test j ≡ true → 1 < count n test
  count_two i j test i_within j_within apart i_yes j_yes = elim (cases_lt i j) [
    | inl before ↦ omega (
      arith,
      total_terms n i j (λ k. one_if (test k)) before j_within,
      one_if_true (test i) i_yes,
      one_if_true (test j) j_yes,
    )
    | inr after ↦ omega (
      arith,
      total_terms n j i (λ k. one_if (test k)) (omega arith) i_within,
      one_if_true (test i) i_yes,
      one_if_true (test j) j_yes,
    )
  ]

  pub count_order : (s t : ℕ → Bool) → ((k : ℕ) → k < n → s k ≡ true → t k ≡ true) → count n s ≤ count n t
  count_order s t each = grind (arith, total_le, one_if_order)

  -- s and t differ at i alone
  pub count_change : (i : ℕ) (s t : ℕ → Bool) → i < n → ((k : ℕ) → k < n → k ≢ i → s k ≡ t k) →
      count n s + one_if (t i) ≡ count n t + one_if (s i)
  count_change i s t within same =
      total_change n i _ _ within (λ k h d. ap one_if (same k h d))

  -- s and t differ at i and at j alone
  pub count_change_two : (i j : ℕ) (s t : ℕ → Bool) → i < n → j < n → i ≢ j → ((k : ℕ) → k < n → k ≢ i → k ≢ j →
      s k ≡ t k) → count n s + (one_if (t i) + one_if (t j)) ≡ count n t + (one_if (s i) + one_if (s j))
  count_change_two i j s t i_within j_within apart same =
      total_change_two n i j _ _ i_within j_within apart
      (λ k h d e. ap one_if (same k h d e))

pub count_grows : (m n : ℕ) (test : ℕ → Bool) → m ≤ n → count m test ≤ count n test
count_grows m n test few = total_grows m n _ few

-- what a loop that counts needs
pub ruleset counts = (count_none, count_yes, count_no)
