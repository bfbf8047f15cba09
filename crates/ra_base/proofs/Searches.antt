-- Laws of `or_else` and `first`, the search for the first answer over the numbers below n.
use Rattle.std.proofs.Common.{◌≡◌, ℕ, zero, suc, ◌+◌, ◌*◌, ◌<◌, ◌≤◌, ◌⊎◌, Option, Some, None, option_map, sym, refl, ap}
use Rattle.std.proofs.Common.{◌∙◌, inl, inr, ⊎_elim, add-one, add-suc, add-zero, zero-mul, suc-mul, arith}
use Rattle.std.proofs.lemmas.Bool.{cases_lt}
use Rattle.ra_base.specs.Searches.{or_else, first}

module _ {X : Type 0} where
  pub or_else_none : (b : Option X) → or_else None b ≡ b
  unfolding or_else
  or_else_none b = refl

  pub or_else_some : (x : X) (b : Option X) → or_else (Some x) b ≡ Some x
  unfolding or_else
  or_else_some x b = refl

  pub or_else_none_right : (a : Option X) → or_else a None ≡ a
  unfolding or_else
  or_else_none_right None = refl
  or_else_none_right (Some x) = refl

  pub or_else_assoc : (a b c : Option X) → or_else (or_else a b) c ≡ or_else a (or_else b c)
  unfolding or_else
  or_else_assoc None b c = refl
  or_else_assoc (Some x) b c = refl

  -- none, if neither of the two is there
  pub both_none : (a b : Option X) → a ≡ None → b ≡ None → or_else a b ≡ None
  both_none a b no_a no_b = rw (no_a, no_b) (or_else_none None)

  pub left_none : (a b : Option X) → or_else a b ≡ None → a ≡ None
  unfolding or_else
  left_none None b none = refl
  left_none (Some x) b none = none

  pub right_none : (a b : Option X) → or_else a b ≡ None → b ≡ None
  unfolding or_else
  right_none None b none = none
  right_none _ b none = cc

  -- what is found is the one, or the other if the one is not there
  pub or_else_cases : (a b : Option X) (x : X) → or_else a b ≡ Some x → (a ≡ Some x) ⊎ ((a ≡ None) × (b ≡ Some x))
  unfolding or_else
  or_else_cases None b x found = inr (refl, found)
  or_else_cases (Some y) b x found = inl found

module _ {X : Type 0} where
  pub first_none : (f : ℕ → Option X) → first 0 f ≡ None
  unfolding first
  first_none f = refl

  module _ (n : ℕ) (f : ℕ → Option X) where
    pub first_suc : first (suc n) f ≡ or_else (first n f) (f n)
    unfolding first
    first_suc = refl

    -- one more, as a loop counts
    pub first_more : first (n + 1) f ≡ or_else (first n f) (f n)
    unfolding first
    first_more = rw add-one refl

    -- nothing so far, and nothing here
    pub first_more_none : first n f ≡ None → f n ≡ None → first (n + 1) f ≡ None
    first_more_none before here = first_more ∙ both_none (first n f) _ before here

    -- nothing so far, so the answer is the one here
    pub first_more_skip : first n f ≡ None → first (n + 1) f ≡ f n
    first_more_skip before = grind (arith, first_more, or_else_none)

  -- what is found stays found
  pub first_grows : (i n : ℕ) (f : ℕ → Option X) (x : X) → i ≤ n → first i f ≡ Some x → first n f ≡ Some x
  unfolding first
  first_grows i zero f x below found = let none : i ≡ 0 = omega arith in rw none at found
  first_grows i (suc n) f x below found = ⊎_elim
      (λ before. ap (λ a. or_else a (f n)) (first_grows i n f x (omega arith) found)
      ∙ or_else_some x (f n))
      (λ after. let all : i ≡ suc n = omega arith in rw all at found)
      (cases_lt i (suc n))

  -- nothing before i, and an answer at i
  pub first_found : (i n : ℕ) (f : ℕ → Option X) (x : X) → i < n → first i f ≡ None → f i ≡ Some x → first n f ≡ Some x
  first_found i n f x within before here = first_grows _ n f x within (rw (
    first_suc i f,
    before,
    here,
  ) (or_else_none _))

  pub first_none_at : (i n : ℕ) (f : ℕ → Option X) → i < n → first n f ≡ None → f i ≡ None
  unfolding first
  first_none_at i zero f within none = absurd (omega arith)
  first_none_at i (suc n) f within none = grind (arith, first_none_at i n f, left_none, right_none)

  pub first_none_from : (n : ℕ) (f : ℕ → Option X) → ((k : ℕ) → k < n → f k ≡ None) → first n f ≡ None
  unfolding first
  first_none_from zero f nones = refl
  first_none_from (suc n) f nones =
      both_none (first n f) _ (first_none_from n f (λ k h. nones k (omega arith))) (nones n (omega arith))

  pub first_same : (n : ℕ) (f g : ℕ → Option X) → ((k : ℕ) → k < n → f k ≡ g k) → first n f ≡ first n g
  unfolding first
  first_same zero f g same = refl
  first_same (suc n) f g same = cc (first_same n f g (λ k h. same k (omega arith)), same n (omega arith))

  -- the numbers from i to n have no answer, so the search may end at i
  pub first_skip : (i n : ℕ) (f : ℕ → Option X) → i ≤ n → ((k : ℕ) → i ≤ k → k < n → f k ≡ None) → first n f ≡ first i f
  unfolding first
  first_skip i zero f below nones = let none : i ≡ 0 = omega arith in rw none refl
  first_skip i (suc n) f below nones = ⊎_elim
      (λ before. ap (or_else (first n f)) (nones n (omega arith) (omega arith)) ∙ or_else_none_right (first n f)
      ∙ first_skip i n f (omega arith) (λ k low h. nones k low (omega arith)))
      (λ after. let all : i ≡ suc n = omega arith in rw all refl)
      (cases_lt i (suc n))

  -- the place of what is found: the answer there, and none before
  pub first_some_at : (n : ℕ) (f : ℕ → Option X) (x : X) → first n f ≡ Some x → (i : ℕ) × (i < n) × (f i ≡ Some x)
      × (first i f ≡ None)
  unfolding first
  first_some_at zero f x found = absurd (cc)
  first_some_at (suc n) f x found = elim (or_else_cases (first n f) _ x found) [
    | inl before ↦ let at = first_some_at n f x before in (at.0, omega arith, at.2, at.3)
    | inr here ↦ (n, omega arith, here.1, here.0)
  ]

  -- the first m, and then the next n
  pub first_split : (m n : ℕ) (f : ℕ → Option X) → first (m + n) f ≡ or_else (first m f) (first n (λ k. f (m + k)))
  unfolding first
  first_split m zero f = rw add-zero (sym (or_else_none_right (first m f)))
  first_split m (suc n) f =
      rw add-suc (ap (λ a. or_else a (f (m + n))) (first_split m n f)
      ∙ or_else_assoc (first m f) (first n _) _)

-- rows of n places each, one after another
pub first_rows : {X : Type 0} → (m n : ℕ) (f : ℕ → Option X) →
    first (m * n) f ≡ first m (λ i. first n (λ j. f (i * n + j)))
unfolding first
first_rows zero n f = rw (zero-mul n)
first_rows (suc m) n f = rw (suc-mul m n, first_split _ n f, first_rows m n f) refl

-- what is found is passed on through h
or_else_map : {X Y : Type 0} → (h : X → Y) (a b : Option X) → or_else (option_map h a) (option_map h b) ≡
    option_map h (or_else a b)
unfolding or_else
or_else_map h None b = refl
or_else_map h (Some x) b = refl

pub first_map : {X Y : Type 0} → (n : ℕ) (h : X → Y) (f : ℕ → Option X) → first n (λ k. option_map h (f k)) ≡
    option_map h (first n f)
unfolding first
first_map zero h f = refl
first_map (suc n) h f = ap (λ a. or_else a (option_map h (f n))) (first_map n h f) ∙ or_else_map h (first n f) _

-- what a search in a loop needs
pub ruleset searches = (first_none, first_more_none, first_more_skip, first_found)

-- what one search after another needs
pub ruleset choices = (or_else_none, or_else_some, or_else_none_right)
