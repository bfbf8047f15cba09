-- Beginnings of lists, the notes by one number, and sums of which one element changes.
use Rattle.std.proofs.Common.{◌≡◌, ◌≢◌, ℕ, zero, suc, ◌+◌, ◌==◌, ◌⊎◌, ◌≤◌, ◌<◌, Bool, cond, List, [], ◌∷◌}
use Rattle.std.proofs.Common.{◌++◌, length, drop, set, All, sum_by, filter, refl, ap, sym, ◌∙◌, inl, inr, ne_eqb}
use Rattle.std.proofs.Common.{eq-eqb, arith, append_assoc}
use Rattle.std.proofs.Math.Seq.{drop-append_seam}
use Rattle.std.proofs.lemmas.List.{append-nil}
use Rattle.std.proofs.lemmas.List.Sums.{sum_by-cons}
use Rattle.std.proofs.lemmas.List.Elements.{filter-append}
use mathlib.Core.Option.{some, some-injective, some-ne-none}
use mathlib.Core.List.{IsPrefix}
use mathlib.Core.Logic.{dite}
use native.Mathlib.Decide.{ℕ_discrete}
use lib.ListN.{get_elem?}
use Rattle.atomic_table.proofs.Lists.{set_else, set_here}
use Rattle.ra_turn.specs.Notes.{by}

module _ {A : Type 0} where
  -- each list begins with itself
  pub prefix_self : (xs : List A) → IsPrefix xs xs
  prefix_self xs = ([], append-nil xs)

  pub prefix_longer : (xs ys zs : List A) → IsPrefix xs ys → IsPrefix xs (ys ++ zs)
  prefix_longer xs ys zs p = (p.0 ++ zs, sym (append_assoc xs p.0 zs) ∙ ap (λ w. w ++ zs) p.1)

  -- an element at the end or before it
  pub at_end : (l : List A) (a b : A) (j : ℕ) → get_elem? (l ++ a ∷ []) j ≡ some b → (get_elem? l j ≡ some b)
      ⊎ ((j ≡ length l) × (a ≡ b))
  at_end [] a b zero e = inr (refl, some-injective a b e)
  at_end [] a b (suc j) e = absurd (some-ne-none b (sym e))
  at_end (x ∷ xs) a b zero e = inl e
  at_end (x ∷ xs) a b (suc j) e = elim (at_end xs a b j e) [ inl h ↦ inl h | inr h ↦ inr (omega (arith, h.0), h.1) ]

  pub at_below : (l : List A) (j : ℕ) (b : A) → get_elem? l j ≡ some b → j < length l
  at_below [] j b e = absurd (some-ne-none b (sym e))
  at_below (x ∷ xs) zero b e = omega arith
  at_below (x ∷ xs) (suc j) b e = omega (arith, at_below xs j b e)

  module _ (P : A → Type 0) where
    -- what the element at a place has, it still has if one element changes and keeps it
    pub stands_at : (l : List A) (i : ℕ) (v w : A) (j : ℕ) → get_elem? l i ≡ some v → (P v → P w)
        → (u : A) × P u × (get_elem? l j ≡ some u) → (u : A) × P u × (get_elem? (set l i w) j ≡ some u)
    stands_at l i v w j at has g =
        dite (ℕ_discrete j i)
        (λ e. (let same = some-injective g.0 v (sym g.2 ∙ (ap (get_elem? l) e ∙ at)) in
        (w, has (rw (← same) g.1), ap (get_elem? (set l i w)) e ∙ set_here l i w (at_below l i v at))))
        (λ ne. (g.0, g.1, set_else l i j w ne ∙ g.2))

    pub all_first : (x y : A) (xs : List A) → P y → All P (x ∷ xs) → All P (y ∷ xs)
    all_first x y xs p all zero d lt = p
    all_first x y xs p all _ d lt = all _ d lt

    pub all_one : (x : A) (xs : List A) → length xs ≡ 0 → P x → All P (x ∷ xs)
    all_one x xs none p zero d lt = p
    all_one x xs none p _ d lt = absurd (omega arith)

    pub all_map : (Q : A → Type 0) (xs : List A) → ((x : A) → P x → Q x) → All P xs → All Q xs
    all_map Q xs f all k d lt = f _ (all k d lt)

  -- a sum of which one element changes
  pub sum_changes : (f : A → ℕ) (l : List A) (i : ℕ) (v w : A) → get_elem? l i ≡ some v →
      sum_by f (set l i w) + f v ≡ sum_by f l + f w
  sum_changes f [] i v w e = absurd (some-ne-none v (sym e))
  sum_changes f (x ∷ xs) zero v w e =
      let same : f x ≡ f v = ap f (some-injective x v e) in
      omega (arith, sum_by-cons f x xs, sum_by-cons f w xs)
  sum_changes f (x ∷ xs) (suc i) v w e =
      omega (arith, sum_changes f xs i v w e, sum_by-cons f x xs, sum_by-cons f x (set xs i w))

  pub sum_has : (f : A → ℕ) (l : List A) (i : ℕ) (v : A) → get_elem? l i ≡ some v → f v ≤ sum_by f l
  sum_has f [] i v e = absurd (some-ne-none v (sym e))
  sum_has f (x ∷ xs) zero v e = let same : f x ≡ f v = ap f (some-injective x v e) in omega (arith, sum_by-cons f x xs)
  sum_has f (x ∷ xs) (suc i) v e = omega (arith, sum_has f xs i v e, sum_by-cons f x xs)

module _ {N : Type 0} (author : N → ℕ) where
  module _ (number : ℕ) (xs : List N) (x : N) where
    -- a note by another number doesn't count
    pub by_other : author x ≢ number → by author number (xs ++ x ∷ []) ≡ by author number xs
    by_other ne =
        let test : N → Bool = λ y. author y == number in
        let away = ne_eqb _ number ne in
        filter-append test xs (x ∷ [])
        ∙ (ap (λ b. filter test xs ++ cond b (x ∷ []) []) away ∙ append-nil (filter test xs))

    pub by_same : author x ≡ number → by author number (xs ++ x ∷ []) ≡ by author number xs ++ x ∷ []
    by_same e =
        let test : N → Bool = λ y. author y == number in
        let here = eq-eqb _ number e in
        filter-append test xs (x ∷ []) ∙ ap (λ b. filter test xs ++ cond b (x ∷ []) []) here

  -- one note more by the number is the one that comes after those that were seen
  pub by_one_more : (number : ℕ) (seen mine xs : List N) (x : N) → xs ≡ seen ++ x ∷ [] → author x ≡ number →
      by author number seen ≡ mine → by author number xs ≡ mine ++ drop (length seen) xs
  by_one_more number seen mine xs x added here told =
      let last : drop (length seen) xs ≡ x ∷ [] = ap (drop _) added ∙ drop-append_seam seen _ in
      ap (by author number) added
      ∙ (by_same number seen x here
      ∙ (ap (λ ys. ys ++ x ∷ []) told ∙ ap (λ ys. mine ++ ys) (sym last)))
