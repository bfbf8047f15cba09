-- The change of a sum if only named places change, each name counted where it is named first.
use Rattle.std.proofs.Common.{inl, inr, ◌≡◌, ℕ, zero, suc, ◌+◌, ◌<◌, ◌≢◌, true, false, cond, eqb, ltb, not, ◌||◌, sym}
use Rattle.std.proofs.Common.{refl}
use Rattle.std.proofs.Common.{◌∙◌, add-one, arith, eq-eqb, ne_eqb, lt-ltb, le-ltb}
use Rattle.std.proofs.lemmas.Bool.{cases_Bool, cond-true, cond-false, or_cases, eqb-true}
use Rattle.std.proofs.lemmas.Bool.{false_from_ne_true, both_ways, not_from_true, not_from_false}
use Rattle.std.proofs.Math.Bool.{or-false}
use Rattle.ra_base.specs.Sums.{total, one_if, count, is_named, fresh}
use Rattle.ra_base.proofs.Sums.{total_none, total_suc, total_zero, total_change, total_balance}
use Rattle.ra_base.proofs.Counts.{count_change, count_some, count_zero, one_if_true, one_if_false, one_if_parts}

pub is_named_none : (e : ℕ → ℕ) (m : ℕ) → is_named 0 e m ≡ false
unfolding is_named
is_named_none e m = refl

-- a name is named
pub is_named_at : (k j : ℕ) (e : ℕ → ℕ) (m : ℕ) → j < k → e j ≡ m → is_named k e m ≡ true
unfolding is_named
is_named_at zero j e m within is = absurd (omega arith)
is_named_at (suc k) j e m within is = grind (arith, is_named_at k j e m, eq-eqb)

-- what is named has a name
pub is_named_from : (k : ℕ) (e : ℕ → ℕ) (m : ℕ) → is_named k e m ≡ true → (j : ℕ) × (j < k) × (e j ≡ m)
unfolding is_named
is_named_from zero e m named = absurd (cc)
is_named_from (suc k) e m named = grind (arith, is_named_from k e m, or_cases, eqb-true)

module _ (e f : ℕ → ℕ) (j : ℕ) where
  -- f at a name that is named before counts nothing, and at a new one its value
  pub fresh_again : is_named j e (e j) ≡ true → fresh e f j ≡ 0
  unfolding fresh
  fresh_again before = cond-true _ 0 _ before

  pub fresh_new : is_named j e (e j) ≡ false → fresh e f j ≡ f (e j)
  unfolding fresh
  fresh_new new = cond-false _ 0 _ new

-- f at the named places alone
abbrev named_part : ℕ → (ℕ → ℕ) → (ℕ → ℕ) → ℕ → ℕ
named_part k e f m = cond (is_named k e m) (f m) 0

module _ (k : ℕ) (e : ℕ → ℕ) where
  module _ (m : ℕ) where
    pub is_named_suc : is_named (suc k) e m ≡ (is_named k e m || eqb (e k) m)
    unfolding is_named
    is_named_suc = refl

    -- one more name, as a loop counts
    pub is_named_more : is_named (k + 1) e m ≡ (is_named k e m || eqb (e k) m)
    unfolding is_named
    is_named_more = rw add-one refl

    -- what differs from each name isn't named
    pub is_named_not : ((j : ℕ) → j < k → e j ≢ m) → is_named k e m ≡ false
    is_named_not apart = grind (arith, false_from_ne_true, is_named_from)

    -- a place is named if some name is it
    pub is_named_count : ltb 0 (count k (λ j. eqb (e j) m)) ≡ is_named k e m
    is_named_count = elim (cases_Bool _) [
      | inl named ↦ let found = is_named_from k e m named in
          lt-ltb 0 _ (count_some k found.0 _ found.1 (eq-eqb _ m found.2)) ∙ sym named
      | inr other ↦ le-ltb 0 _ (omega (
        arith,
        count_zero k _
            (λ j h. ne_eqb _ m (λ same. both_ways _ other (is_named_at k j e m h same))),
      ))
          ∙ sym other
    ]

  module _ (f : ℕ → ℕ) (m : ℕ) where
    named_part_true : is_named k e m ≡ true → named_part k e f m ≡ f m
    named_part_true named = cond-true _ _ 0 named

    named_part_false : is_named k e m ≡ false → named_part k e f m ≡ 0
    named_part_false other = cond-false _ _ 0 other

    -- another place than the newest name is as named as before
    named_part_other : m ≢ e k → named_part (suc k) e f m ≡ named_part k e f m
    named_part_other apart = grind (arith, is_named_suc, or-false)

  -- the newest name's own part, if it is named first and if it was named before
  fresh_part : (f : ℕ → ℕ) → fresh e f k + named_part k e f (e k) ≡ f (e k)
  fresh_part f = grind (arith, fresh_again, named_part_true, fresh_new, named_part_false)

-- not named so far, and named here
pub is_named_found : (i k : ℕ) (e : ℕ → ℕ) (m : ℕ) → i < k → is_named i e m ≡ false → e i ≡ m → is_named k e m ≡ true
is_named_found i k e m within before here = is_named_at k i e m within here

-- the sum over the names, each once, is the sum over the named places
pub total_named : (n k : ℕ) (e f : ℕ → ℕ) → ((j : ℕ) → j < k → e j < n) →
    total k (fresh e f) ≡ total n (λ m. cond (is_named k e m) (f m) 0)
total_named n zero e f within =
    total_none (fresh e f) ∙ sym (total_zero n (named_part 0 e f) (λ m h. named_part_false 0 e f m (is_named_none e m)))
total_named n (suc k) e f within =
    let before : total k (fresh e f) ≡ total n (named_part k e f) =
    total_named n k e f (λ j h. within j (omega arith)) in
    let change = total_change n (e k) (named_part _ e f) (named_part k e f) (within k (omega arith))
    (λ m h apart. named_part_other k e f m apart) in
    omega (
      arith,
      before,
      change,
      total_suc k (fresh e f),
      fresh_part k e f,
      named_part_true (suc k) e f (e k) (is_named_at (suc k) k e (e k) (omega arith) refl),
    )

module _ (n k : ℕ) (e : ℕ → ℕ) where
  -- f and g differ at named places alone
  pub total_change_named : (f g : ℕ → ℕ) → ((j : ℕ) → j < k → e j < n) → ((m : ℕ) → m < n → is_named k e m ≡ false →
      f m ≡ g m) → total n f + total k (fresh e g) ≡ total n g + total k (fresh e f)
  total_change_named f g within same =
      let balance = total_balance n f (named_part k e g) g (named_part k e f)
      (λ m h. elim (cases_Bool (is_named k e m)) [
        | inl named ↦ omega (arith, named_part_true k e f m named, named_part_true k e g m named)
        | inr other ↦ omega (
          arith,
          named_part_false k e f m other,
          named_part_false k e g m other,
          same m h other,
        )
      ]) in
      omega (arith, balance, total_named n k e f within, total_named n k e g within)

  -- how many places are named: as many as there are names that were not named before
  pub count_named : ((j : ℕ) → j < k → e j < n) → count n (is_named k e) ≡ total k (fresh e (λ m. 1))
  count_named within = sym (total_named n k e _ within)

  module _ (within : e k < n) where
    -- one more name names one more place, or none if it was named before
    pub count_named_more : count n (is_named (k + 1) e) ≡ count n (is_named k e) + one_if (not (is_named k e (e k)))
    count_named_more = grind (arith, count_change, is_named_more, or-false, one_if_true, is_named_at, one_if_parts)

    pub count_named_again : is_named k e (e k) ≡ true → count n (is_named (k + 1) e) ≡ count n (is_named k e)
    count_named_again before =
        omega (arith, count_named_more, one_if_false _ (not_from_true _ before))

    pub count_named_new : is_named k e (e k) ≡ false → count n (is_named (k + 1) e) ≡ count n (is_named k e) + 1
    count_named_new new =
        omega (arith, count_named_more, one_if_true _ (not_from_false _ new))

-- what a loop over names needs
pub ruleset names = (is_named_none, is_named_more, is_named_found, fresh_again, fresh_new)

-- with no name none is named
pub count_named_none : (n : ℕ) (e : ℕ → ℕ) → count n (is_named 0 e) ≡ 0
count_named_none n e = count_zero n _ (λ m h. is_named_none e m)

-- what a loop that counts different names needs
pub ruleset distincts = (count_named_none, count_named_again, count_named_new)
