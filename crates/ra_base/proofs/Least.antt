-- Laws of `least` and `least_place`, the least answer over the numbers below n and its first place.
use Rattle.std.proofs.Common.{inl, inr, ◌≡◌, ℕ, zero, suc, ◌+◌, ◌<◌, ◌≤◌, Bool, true, false, cond, ltb, Option, Some}
use Rattle.std.proofs.Common.{None, refl}
use Rattle.std.proofs.Common.{ap, ◌∙◌, add-one, arith}
use Rattle.std.proofs.lemmas.Bool.{cases_lt, cond-true, cond-false, ltb-true, ltb-false}
use Rattle.ra_base.specs.Searches.{is_better, least, least_place, IsLeast}

pub least_none : (f : ℕ → Option ℕ) → least 0 f ≡ None
unfolding least
least_none f = refl

pub least_place_none : (f : ℕ → Option ℕ) → least_place 0 f ≡ 0
unfolding least_place
least_place_none f = refl

-- what is known of the least answer below n, and of its place
record Sought (n : ℕ) (f : ℕ → Option ℕ) (best : Option ℕ) (p : ℕ) : Type 0 where
  none : best ≡ None → (k : ℕ) → k < n → f k ≡ None
  some : (v : ℕ) → best ≡ Some v → IsLeast n f p v

module _ (n : ℕ) where
  -- if x is below the best so far, it is below each answer so far
  sought_below : (x k y : ℕ) (f : ℕ → Option ℕ) (best : Option ℕ) (p : ℕ) → Sought n f best p →
      ((v : ℕ) → best ≡ Some v → x < v) → k < n → f k ≡ Some y → x < y
  sought_below x k y f None p sought below before given =
      absurd (cc (sought.none refl k before))
  sought_below x k y f (Some v) p sought below before given =
      omega (arith, below v refl, (sought.some v refl).smallest k y before given)

  -- an answer below the best so far is the least
  sought_better : (x : ℕ) (f : ℕ → Option ℕ) (best : Option ℕ) (p : ℕ) → Sought n f best p → f n ≡ Some x →
      ((v : ℕ) → best ≡ Some v → x < v) → Sought (suc n) f (Some x) n
  sought_better x f best p sought here below = record {
    none = λ is_none. absurd (cc);
    some = λ v is_some.
        let same : x ≡ v = cc in
        let earlier = λ (k : ℕ) (y : ℕ) (before : k < n) (given : f k ≡ Some y).
        sought_below x k y f best p sought below before given in
        record {
          below = omega arith;
          answer = here ∙ is_some;
          smallest = λ k y within given. elim (cases_lt k n) [
            | inl before ↦ let above = earlier k y before given in omega arith
            | inr after ↦ let at : n ≡ k = omega arith in let given_here : f n ≡ Some y = ap f at ∙ given in
                let both : x ≡ y = cc in omega arith
          ];
          earliest = λ k y before given. let above = earlier k y before given in omega arith;
        };
  }

  module _ (f : ℕ → Option ℕ) where
    -- one more, as a loop counts
    pub least_more : least (n + 1) f ≡ cond (is_better (f n) (least n f)) (f n) (least n f)
    unfolding least
    least_more = rw add-one refl

    pub least_place_more : least_place (n + 1) f ≡ cond (is_better (f n) (least n f)) n (least_place n f)
    unfolding least_place
    least_place_more = rw add-one refl

    -- one more that is better, and one that isn't
    pub least_better : is_better (f n) (least n f) ≡ true → (least (n + 1) f ≡ f n) × (least_place (n + 1) f ≡ n)
    unfolding least least_place
    least_better better = rw add-one (cond-true _ _ (least n f) better, cond-true _ n _ better)

    pub least_kept : is_better (f n) (least n f) ≡ false → (least (n + 1) f ≡ least n f)
        × (least_place (n + 1) f ≡ least_place n f)
    unfolding least least_place
    least_kept worse = rw add-one (cond-false _ _ (least n f) worse, cond-false _ n _ worse)

    -- an answer that isn't there, or not below the best, changes nothing
    sought_kept : (best : Option ℕ) (p : ℕ) → Sought n f best p → (best ≡ None → f n ≡ None) →
        ((v x : ℕ) → best ≡ Some v → f n ≡ Some x → v ≤ x) → Sought (suc n) f best p
    sought_kept best p sought lacking above = record {
      none = λ is_none k below. elim (cases_lt k n) [
        | inl before ↦ sought.none is_none k before
        | inr after ↦ let here : k ≡ n = omega arith in ap f here ∙ lacking is_none
      ];
      some = λ v is_some. let found = sought.some v is_some in record {
        below = omega (arith, found.below);
        answer = found.answer;
        smallest = λ k x below given. elim (cases_lt k n) [
          | inl before ↦ found.smallest k x before given
          | inr after ↦ let here : n ≡ k = omega arith in above v x is_some (ap f here ∙ given)
        ];
        earliest = found.earliest;
      };
    }

    -- one more answer a
    sought_more : (a best : Option ℕ) (p : ℕ) → f n ≡ a → Sought n f best p →
        Sought (suc n) f (cond (is_better a best) a best) (cond (is_better a best) n p)
    unfolding is_better
    sought_more None best p here sought =
        sought_kept best p sought (λ is_none. here) (λ v x is_some given. absurd (cc))
    sought_more (Some x) None p here sought = sought_better x f None p sought here (λ v is_some. absurd (cc))
    sought_more (Some x) (Some y) p here sought = by_order (ltb x y) refl
      where
        by_order : (lower : Bool) → ltb x y ≡ lower → Sought (suc n) f (cond lower (Some x) (Some y)) (cond lower n p)
        by_order true is =
            sought_better x f (Some y) p sought here (λ v is_some. let same : y ≡ v = cc in
            omega (arith, ltb-true x y is))
        by_order false is = sought_kept (Some y) p sought (λ is_none. absurd (cc))
            (λ v z is_some given. let one : y ≡ v = cc in let other : x ≡ z = cc in omega (arith, ltb-false x y is))

-- when an answer is better
pub is_better_none : (best : Option ℕ) → is_better None best ≡ false
unfolding is_better
is_better_none best = refl

pub is_better_some : (x y : ℕ) → is_better (Some x) (Some y) ≡ ltb x y
unfolding is_better
is_better_some x y = refl

sought : (n : ℕ) (f : ℕ → Option ℕ) → Sought n f (least n f) (least_place n f)
unfolding least least_place
sought zero f = record {
  none = λ is_none k within. absurd (omega arith);
  some = λ v is_some. absurd (cc);
}
sought (suc n) f = sought_more n f _ (least n f) _ refl (sought n f)

module _ (n : ℕ) where
  -- what the least answer is: the value, and the first place that gives it
  pub least_means : (v : ℕ) (f : ℕ → Option ℕ) → least n f ≡ Some v → IsLeast n f (least_place n f) v
  least_means v f is = (sought n f).some v is

  -- with no least answer none is there
  pub least_none_at : (k : ℕ) (f : ℕ → Option ℕ) → least n f ≡ None → k < n → f k ≡ None
  least_none_at k f is within = (sought n f).none is k within

  -- the least answer and its place are the only ones
  pub least_once : (p q v w : ℕ) (f : ℕ → Option ℕ) → IsLeast n f p v → IsLeast n f q w → (p ≡ q) × (v ≡ w)
  least_once p q v w f one other =
      let same : v ≡ w =
      omega (arith, one.smallest q w other.below other.answer, other.smallest p v one.below one.answer) in
      (grind (arith, one.earliest q w, other.earliest p v, one.answer, other.answer), same)

  -- what is least is what is found
  pub least_is : (p v : ℕ) (f : ℕ → Option ℕ) → IsLeast n f p v → (least n f ≡ Some v) × (least_place n f ≡ p)
  least_is p v f least_at = by_answer (least n f) refl
    where
      by_answer : (best : Option ℕ) → least n f ≡ best → (least n f ≡ Some v) × (least_place n f ≡ p)
      by_answer None is = absurd (cc (least_none_at p f is least_at.below, least_at.answer))
      by_answer (Some w) is =
          let once = least_once _ p w v f (least_means w f is) least_at in
          (is ∙ ap Some once.1, once.0)

  -- if an answer is there, so is the least
  pub least_there : (k x : ℕ) (f : ℕ → Option ℕ) → k < n → f k ≡ Some x → (v : ℕ) × (least n f ≡ Some v) × (v ≤ x)
  least_there k x f within given = by_answer (least n f) refl
    where
      by_answer : (best : Option ℕ) → least n f ≡ best → (v : ℕ) × (least n f ≡ Some v) × (v ≤ x)
      by_answer None is = absurd (cc (least_none_at k f is within))
      by_answer (Some w) is = (w, is, (least_means w f is).smallest k x within given)

pub least_none_from : (n : ℕ) (f : ℕ → Option ℕ) → ((k : ℕ) → k < n → f k ≡ None) → (least n f ≡ None)
    × (least_place n f ≡ 0)
unfolding least least_place is_better
least_none_from zero f nones = (refl, refl)
least_none_from (suc n) f nones =
    rw (nones n (omega arith)) (least_none_from n f (λ k h. nones k (omega arith)))

pub least_same : (n : ℕ) (f g : ℕ → Option ℕ) → ((k : ℕ) → k < n → f k ≡ g k) → (least n f ≡ least n g)
    × (least_place n f ≡ least_place n g)
unfolding least least_place
least_same zero f g same = (refl, refl)
least_same (suc n) f g same =
    let before = least_same n f g (λ k h. same k (omega arith)) in
    (cc (before.0, same n (omega arith)), cc (before.0, before.1, same n (omega arith)))

-- what a loop that looks for the least needs
pub ruleset leasts = (least_none, least_place_none, least_more, least_place_more)
