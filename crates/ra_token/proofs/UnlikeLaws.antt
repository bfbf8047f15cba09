-- The first line at which two texts differ that are the same up to a byte.
use Rattle.std.proofs.Common.{◌≡◌, ◌≢◌, ℕ, zero, suc, ◌<◌, Bool, true, false, cond, eqb, List, [], ◌∷◌, ◌++◌, drop, slice_get, Option, Some, None, refl, sym, ◌∙◌, ap, arith}
use Rattle.std.proofs.lemmas.Option.{none-some}
use Rattle.ra_token.specs.Lines.{onto_first, lines_of, line_at, line_end_count, FirstUnlike}
use Rattle.ra_token.proofs.SplitLaws.{lines_onto, lines_end}

-- the first byte of a line that may be there
abbrev start_of : Option (List ℕ) → Option ℕ
start_of None = None
start_of (Some line) = slice_get line 0

line_start : (z : List ℕ) → start_of (line_at 0 z) ≡ slice_get z 0
unfolding line_at lines_of
line_start [] = refl
line_start (b ∷ z) = either (eqb b 10) (lines_of z)
  where
    either : (is : Bool) (ls : List (List ℕ)) → start_of (slice_get (cond is ((b ∷ []) ∷ ls) (onto_first b ls)) 0) ≡
        Some b
    either true ls = refl
    either false [] = refl
    either false (l ∷ ls) = refl

-- a line with one more byte in front, if it is the first
abbrev onto_line : ℕ → ℕ → Option (List ℕ) → Option (List ℕ)
onto_line b zero None = Some (b ∷ [])
onto_line b zero (Some line) = Some (b ∷ line)
onto_line b (suc n) line = line

-- no line is empty
no_empty : (z : List ℕ) → line_at 0 z ≡ Some [] → ⊥
unfolding line_at lines_of
no_empty [] e = none-some [] e
no_empty (b ∷ z) e = none-some b (sym (ap start_of e) ∙ line_start (b ∷ z))

abbrev value_of : Option (List ℕ) → List ℕ
value_of None = []
value_of (Some line) = line

module _ (b : ℕ) where
  module _ (z : List ℕ) (n : ℕ) where
    at_onto : eqb b 10 ≡ false → line_at n (b ∷ z) ≡ onto_line b n (line_at n z)
    unfolding line_at
    at_onto test = ap (λ ls. slice_get ls n) (lines_onto b z test) ∙ either n (lines_of z)
      where
        either : (m : ℕ) (ls : List (List ℕ)) → slice_get (onto_first b ls) m ≡ onto_line b m (slice_get ls m)
        either zero [] = refl
        either zero (l ∷ ls) = refl
        either (suc m) [] = refl
        either (suc m) (l ∷ ls) = refl

    at_end : eqb b 10 ≡ true → line_at (suc n) (b ∷ z) ≡ line_at n z
    unfolding line_at
    at_end test = ap (λ ls. slice_get ls (suc n)) (lines_end b z test)

  at_first : (z : List ℕ) → eqb b 10 ≡ true → line_at 0 (b ∷ z) ≡ Some (b ∷ [])
  unfolding line_at
  at_first z test = ap (λ ls. slice_get ls 0) (lines_end b z test)

  onto_same : (n : ℕ) (o p : Option (List ℕ)) → (o ≡ Some [] → ⊥) → (p ≡ Some [] → ⊥) →
      onto_line b n o ≡ onto_line b n p → o ≡ p
  onto_same (suc n) o p some there e = e
  onto_same zero None None some there e = refl
  onto_same zero None (Some l) some there e =
      absurd (there (ap (λ xs. Some xs) (sym (ap (λ q. drop 1 (value_of q)) e))))
  onto_same zero (Some l) None some there e = absurd (some (ap (λ xs. Some xs) (ap (λ q. drop 1 (value_of q)) e)))
  onto_same zero (Some l) (Some m) some there e = ap (λ xs. Some xs) (ap (λ q. drop 1 (value_of q)) e)

  same_onto : (n : ℕ) (x y : List ℕ) → onto_line b n (line_at n x) ≡ onto_line b n (line_at n y) →
      line_at n x ≡ line_at n y
  same_onto zero x y e = onto_same 0 (line_at 0 x) (line_at 0 y) (no_empty x) (no_empty y) e
  same_onto (suc n) x y e = e

  module _ (x y : List ℕ) (n : ℕ) where
    unlike_end : eqb b 10 ≡ true → FirstUnlike x y n → FirstUnlike (b ∷ x) (b ∷ y) (suc n)
    unlike_end test u = record {
      before = below;
      here = λ e. u.here (sym (at_end x n test) ∙ e ∙ at_end y n test);
    }
      where
        below : (m : ℕ) → m < suc n → line_at m (b ∷ x) ≡ line_at m (b ∷ y)
        below zero less = at_first x test ∙ sym (at_first y test)
        below (suc m) less = at_end x m test ∙ u.before m (omega arith) ∙ sym (at_end y m test)

    unlike_onto : eqb b 10 ≡ false → FirstUnlike x y n → FirstUnlike (b ∷ x) (b ∷ y) n
    unlike_onto test u = record {
      before = λ m less. at_onto x m test ∙ ap (onto_line b m) (u.before m less) ∙ sym (at_onto y m test);
      here = λ e. u.here (same_onto n x y (sym (at_onto x n test) ∙ e ∙ at_onto y n test));
    }

-- the first line that differs is that of the first byte that differs
pub unlike_at : (p x y : List ℕ) → slice_get x 0 ≢ slice_get y 0 → FirstUnlike (p ++ x) (p ++ y) (line_end_count p)
unfolding line_end_count
unlike_at [] x y other = record {
  before = λ m less. absurd (omega arith);
  here = λ e. other (sym (line_start x) ∙ ap start_of e ∙ line_start y);
}
unlike_at (b ∷ p) x y other = either (eqb b 10) refl (unlike_at p x y other)
  where
    either : (is : Bool) → eqb b 10 ≡ is → FirstUnlike (p ++ x) (p ++ y) (line_end_count p) →
        FirstUnlike (b ∷ (p ++ x)) (b ∷ (p ++ y)) (cond is (suc (line_end_count p)) (line_end_count p))
    either true test u = unlike_end b (p ++ x) (p ++ y) (line_end_count p) test u
    either false test u = unlike_onto b (p ++ x) (p ++ y) (line_end_count p) test u
