-- Laws of `pick`, the numbers below n that pass a test, ascending.
use Rattle.std.proofs.Common.{inl, inr, ◌≡◌, ℕ, zero, suc, ◌+◌, ◌<◌, ◌≤◌, Bool, true, false, cond, ◌&&◌, List, []}
use Rattle.std.proofs.Common.{◌∷◌, ◌++◌}
use Rattle.std.proofs.Common.{length, get_or, Option, None, sym, refl, ap, ap₂, ◌∙◌, add-one, arith}
use Rattle.std.proofs.Common.{length-append, ext_get_or}
use Rattle.std.proofs.lemmas.Bool.{cases_lt, cond-true, cond-false, cond_both, both_ways}
use Rattle.std.proofs.lemmas.List.{get_or_append_left}
use Rattle.std.proofs.Math.Seq.{get_or-append_seam}
use Rattle.ra_base.specs.Sums.{total, one_if, count, pick}
use Rattle.ra_base.specs.Searches.{or_else, first}
use Rattle.ra_base.proofs.Sums.{total_none, total_suc, total_same}
use Rattle.ra_base.proofs.ListLaws.{total_push, first_push}
use Rattle.ra_base.proofs.Counts.{count_none, count_yes, count_no}
use Rattle.ra_base.proofs.Searches.{first_suc, first_none, or_else_none_right}

pub pick_none : (test : ℕ → Bool) → pick 0 test ≡ []
unfolding pick
pick_none test = refl

-- a law of all picks, from each way of one more
pick_by : (P : ℕ → List ℕ → Type 0) (test : ℕ → Bool) → P 0 [] →
    ((n : ℕ) → test n ≡ true → P n (pick n test) → P (suc n) (pick n test ++ n ∷ [])) →
    ((n : ℕ) → test n ≡ false → P n (pick n test) → P (suc n) (pick n test)) → (n : ℕ) → P n (pick n test)
unfolding pick
pick_by P test none passes fails zero = none
pick_by P test none passes fails (suc n) = cond_both (test n) (pick n test ++ n ∷ []) (pick n test) (P _)
    (λ is. passes n is (pick_by P test none passes fails n)) (λ is. fails n is (pick_by P test none passes fails n))

-- as many as pass
pub pick_length : (n : ℕ) (test : ℕ → Bool) → length (pick n test) ≡ count n test
pick_length n test = pick_by (λ m xs. length xs ≡ count m test) test (sym (count_none test))
    (λ m passes so_far. length-append _ _ ∙ ap (λ k. k + 1) so_far ∙ sym (count_yes m test passes)
    ∙ ap (λ k. count k test) (add-one m))
    (λ m fails so_far. so_far ∙ sym (count_no m test fails) ∙ ap (λ k. count k test) (add-one m))
    n

-- the element that was put at the end of a list
last_is : (xs : List ℕ) (x j : ℕ) → length xs ≤ j → j < length (xs ++ x ∷ []) → get_or (xs ++ x ∷ []) j 0 ≡ x
last_is xs x j after within =
    let here : j ≡ length xs = omega (arith, length-append xs (x ∷ [])) in rw here (get_or-append_seam xs x [] 0)

-- one more element at the end of a list: a fact at each place
every_push : (P : ℕ → Type 0) (xs : List ℕ) (x : ℕ) → ((j : ℕ) → j < length xs → P (get_or xs j 0)) → P x → (j : ℕ) →
    j < length (xs ++ x ∷ []) → P (get_or (xs ++ x ∷ []) j 0)
every_push P xs x each last j within = elim (cases_lt j (length xs)) [
  | inl before ↦ rw (get_or_append_left xs (x ∷ []) 0 j before) (each j before)
  | inr after ↦ rw (last_is xs x j after within) last
]

-- each that is picked is below n and passes
pub pick_at : (n : ℕ) (test : ℕ → Bool) (j : ℕ) → j < length (pick n test) → (get_or (pick n test) j 0 < n)
    × (test (get_or (pick n test) j 0) ≡ true)
pick_at n test = pick_by (λ m xs. (j : ℕ) → j < length xs → (get_or xs j 0 < m) × (test (get_or xs j 0) ≡ true)) test
    (λ j within. absurd (omega arith))
    (λ m passes so_far. every_push (λ x. (x < suc m) × (test x ≡ true)) _ m
    (λ j within. (omega (arith, (so_far j within).0), (so_far j within).1)) (omega arith, passes))
    (λ m fails so_far j within. (omega (arith, (so_far j within).0), (so_far j within).1))
    n

module _ (n : ℕ) (test : ℕ → Bool) where
  -- one more, as a loop counts
  pub pick_more : pick (n + 1) test ≡ cond (test n) (pick n test ++ n ∷ []) (pick n test)
  unfolding pick
  pick_more = rw add-one refl

  pub pick_yes : test n ≡ true → pick (n + 1) test ≡ pick n test ++ n ∷ []
  pick_yes passes = pick_more ∙ cond-true _ _ _ passes

  pub pick_no : test n ≡ false → pick (n + 1) test ≡ pick n test
  pick_no fails = pick_more ∙ cond-false _ _ _ fails

  -- ascending
  pub pick_ascends : (i j : ℕ) → i < j → j < length (pick n test) → get_or (pick n test) i 0 < get_or (pick n test) j 0
  pick_ascends = pick_by (λ m xs. (i j : ℕ) → i < j → j < length xs → get_or xs i 0 < get_or xs j 0) test
      (λ i j before within. absurd (omega arith))
      (λ m passes so_far i j before within.
      let earlier : i < length (pick m test) = omega (arith, length-append (pick m test) (m ∷ [])) in
      let at_i = get_or_append_left (pick m test) (m ∷ []) 0 i earlier in
      elim (cases_lt j (length (pick m test))) [
        | inl inside ↦ omega (
          arith,
          at_i,
          get_or_append_left (pick m test) (m ∷ []) 0 j inside,
          so_far i j before inside,
        )
        | inr after ↦ omega (arith, at_i, (pick_at m test i earlier).0, last_is (pick m test) m j after within)
      ])
      (λ m fails so_far. so_far)
      n

  -- the place of what is picked says how many pass before it
  pub pick_rank : (j : ℕ) → j < length (pick n test) → count (get_or (pick n test) j 0) test ≡ j
  pick_rank = pick_by (λ m xs. (j : ℕ) → j < length xs → count (get_or xs j 0) test ≡ j) test
      (λ j within. absurd (omega arith))
      (λ m passes so_far j within. elim (cases_lt j (length _)) [
        | inl before ↦ ap (λ k. count k test) (get_or_append_left (pick m test) (m ∷ []) 0 j before) ∙ so_far j before
        | inr after ↦ rw (last_is (pick m test) m j after within)
            (omega (arith, pick_length m test, length-append (pick m test) (m ∷ [])))
      ])
      (λ m fails so_far. so_far)
      n

  -- f has what is picked, if each that passes is at the place that says how many pass before it
  pub pick_read : (f : ℕ → ℕ) → ((k : ℕ) → k < n → test k ≡ true → f (count k test) ≡ k) →
      (j : ℕ) → j < count n test → f j ≡ get_or (pick n test) j 0
  pick_read f placed j within = grind (arith, pick_length, pick_at, pick_rank)

  -- so does a list of as many
  pub pick_is : (xs : List ℕ) → length xs ≡ count n test →
      ((k : ℕ) → k < n → test k ≡ true → get_or xs (count k test) 0 ≡ k) → xs ≡ pick n test
  pick_is xs as_many placed = ext_get_or 0 xs _ (as_many ∙ sym (pick_length n test))
      (λ j within. pick_read (λ k. get_or xs k 0) placed j (omega arith))

  -- a sum over those picked is a sum over all, with zero for the others
  pub pick_total : (f : ℕ → ℕ) →
      total (length (pick n test)) (λ j. f (get_or (pick n test) j 0)) ≡ total n (λ k. cond (test k) (f k) 0)
  pick_total f =
      pick_by (λ m xs. total (length xs) (λ j. f (get_or xs j 0)) ≡ total m (λ k. cond (test k) (f k) 0)) test
      (total_none _ ∙ sym (total_none _))
      (λ m passes so_far.
      omega (
        arith,
        total_push (pick m test) m 0 (λ j x. f x),
        so_far,
        total_suc m (λ k. cond (test k) (f k) 0),
        cond-true (test m) (f m) 0 passes,
      ))
      (λ m fails so_far.
      omega (arith, so_far, total_suc m (λ k. cond (test k) (f k) 0), cond-false (test m) (f m) 0 fails))
      n

pub pick_same : (n : ℕ) (s t : ℕ → Bool) → ((k : ℕ) → k < n → s k ≡ t k) → pick n s ≡ pick n t
unfolding pick
pick_same zero s t same = refl
pick_same (suc n) s t same = cc (pick_same n s t (λ k h. same k (omega arith)), same n (omega arith))

-- each that passes is picked, at the place that says how many pass before it
pub pick_place : (n k : ℕ) (test : ℕ → Bool) → k < n → test k ≡ true → (count k test < length (pick n test))
    × (get_or (pick n test) (count k test) 0 ≡ k)
pick_place n k test within chosen =
    pick_by (λ m xs. k < m → (count k test < length xs) × (get_or xs (count k test) 0 ≡ k)) test
    (λ none. absurd (omega arith))
    (λ m passes so_far below. elim (cases_lt k m) [
      | inl before ↦ let found = so_far before in (
        omega (arith, found.0, length-append (pick m test) (m ∷ [])),
        get_or_append_left (pick m test) (m ∷ []) 0
            (count k test) found.0 ∙ found.1,
      )
      | inr after ↦ let here : m ≡ k = omega arith in
          let place = pick_length m test ∙ ap (λ j. count j test) here in (
            omega (arith, place, length-append (pick m test) (m ∷ [])),
            ap (λ j. get_or (pick m test ++ m ∷ []) j 0)
                (sym place) ∙ get_or-append_seam (pick m test) m [] 0 ∙ here,
          )
    ])
    (λ m fails so_far below. elim (cases_lt k m) [
      | inl before ↦ so_far before
      | inr after ↦ let here : m ≡ k = omega arith in absurd (both_ways (test m) fails (ap test here ∙ chosen))
    ])
    n
    within

both_tests : (s t : Bool) → cond s (one_if t) 0 ≡ one_if (s && t)
both_tests true t = refl
both_tests false t = refl

-- a count over those picked is a count of both tests
pub pick_count : (n : ℕ) (s t : ℕ → Bool) → count (length (pick n s)) (λ j. t (get_or (pick n s) j 0)) ≡
    count n (λ k. s k && t k)
pick_count n s t = pick_total n s _
    ∙ total_same n _ _ (λ k h. both_tests (s k) (t k))

-- a search over those picked is a search over all, with no answer at the others
pub pick_first : {X : Type 0} → (n : ℕ) (test : ℕ → Bool) (f : ℕ → Option X) →
    first (length (pick n test)) (λ j. f (get_or (pick n test) j 0)) ≡ first n (λ k. cond (test k) (f k) None)
pick_first n test f =
    pick_by (λ m xs. first (length xs) (λ j. f (get_or xs j 0)) ≡ first m (λ k. cond (test k) (f k) None)) test
    (first_none _ ∙ sym (first_none _))
    (λ m passes so_far. first_push (pick m test) m 0 (λ j x. f x)
    ∙ ap₂ or_else so_far (sym (cond-true _ _ None passes))
    ∙ sym (first_suc m _))
    (λ m fails so_far. so_far ∙ sym (or_else_none_right _) ∙ ap (or_else (first m _))
    (sym (cond-false (test m) _ None fails)) ∙ sym (first_suc m _))
    n

-- what a loop that picks needs
pub ruleset picks = (pick_none, pick_yes, pick_no)
