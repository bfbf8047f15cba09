-- What a map counts after one count is written.
use Rattle.std.proofs.lemmas.Grind.{common_steps}
use Rattle.std.proofs.Common.{◌≡◌, ℕ, ◌+◌, Bool, true, false, cond, eqb, ◌&&◌, Option, refl, ◌∙◌}
use Rattle.std.proofs.Common.{arith, eq-eqb, ne_eqb}
use Rattle.std.specs.BTreeMap.{is_at}
use Rattle.std.specs.Map.{count_at}
use Rattle.std.specs.Option.{unwrap_or}
use Rattle.std.specs.Ordering.{nat_cmp, is_eq, ordering_then}
use Rattle.std.specs.declared.cmp.Ordering.{Ordering}
use Rattle.std.specs.declared.cmp.Ordering.TheVariants.{Less, Equal, Greater}
use Rattle.std.proofs.lemmas.Bool.Decides.{nat_tests}
use Rattle.ra_edit.specs.Counts.{key_cmp}

-- keys are equal if both their parts are

both_equal : (a b : Ordering) → is_eq (ordering_then a b) ≡ (is_eq a && is_eq b)
both_equal Less b = refl
both_equal Equal b = refl
both_equal Greater b = refl

number_test : (x y : ℕ) → is_eq (nat_cmp x y) ≡ eqb x y
number_test x y = grind (arith, nat_tests)

pub key_test : (s x t y : ℕ) → is_at (key_cmp (s, x)) (t, y) ≡ (eqb s t && eqb x y)
key_test s x t y = cc (both_equal (nat_cmp s t) (nat_cmp x y), number_test s t, number_test x y)

cond_at : (b : Bool) (v w : Option ℕ) → unwrap_or (cond b v w) 0 ≡ cond b (unwrap_or v 0) (unwrap_or w 0)
cond_at true v w = refl
cond_at false v w = refl

-- of another key the count stays, and of this one it is what is written
pub count_written : (f g : ℕ × ℕ → Option ℕ) (s x : ℕ) (w : Option ℕ) →
    ((q : ℕ × ℕ) → g q ≡ cond (is_at (key_cmp (s, x)) q) w (f q)) → (t y : ℕ) →
    count_at g (t, y) ≡ cond (eqb s t && eqb x y) (unwrap_or w 0) (count_at f (t, y))
count_written f g s x w writes t y = cc (writes (t, y), key_test s x t y, cond_at (eqb s t && eqb x y) w (f (t, y)))

-- what holds of each key if it holds of this one, and of the others, where nothing is written
by_key : (P : ℕ → ℕ → Bool → Type 0) (s x : ℕ) → P s x true → ((t y : ℕ) → P t y false) → (t y : ℕ) →
    P t y (eqb s t && eqb x y)
by_key P s x here other t y = grind (arith, common_steps, eq-eqb, ne_eqb)

-- a count that is written as it was
pub count_stays : (f g : ℕ × ℕ → Option ℕ) (s x : ℕ) (w : Option ℕ) →
    ((q : ℕ × ℕ) → g q ≡ cond (is_at (key_cmp (s, x)) q) w (f q)) → unwrap_or w 0 ≡ count_at f (s, x) → (t y : ℕ) →
    count_at g (t, y) ≡ count_at f (t, y)
count_stays f g s x w writes same t y = count_written f g s x w writes t y
    ∙ by_key (λ u z b. cond b (unwrap_or w 0) (count_at f (u, z)) ≡ count_at f (u, z)) s x same (λ u z. refl) t y

-- one more
pub count_raised : (f g : ℕ × ℕ → Option ℕ) (s x : ℕ) (w : Option ℕ) →
    ((q : ℕ × ℕ) → g q ≡ cond (is_at (key_cmp (s, x)) q) w (f q)) → unwrap_or w 0 ≡ count_at f (s, x) + 1 →
    (t y : ℕ) → count_at g (t, y) ≡ count_at f (t, y) + cond (eqb s t && eqb x y) 1 0
count_raised f g s x w writes more t y = count_written f g s x w writes t y
    ∙ by_key (λ u z b. cond b (unwrap_or w 0) (count_at f (u, z)) ≡ count_at f (u, z) + cond b 1 0) s x more
    (λ u z. omega arith) t y

-- one less
pub count_lowered : (f g : ℕ × ℕ → Option ℕ) (s x : ℕ) (w : Option ℕ) →
    ((q : ℕ × ℕ) → g q ≡ cond (is_at (key_cmp (s, x)) q) w (f q)) → count_at f (s, x) ≡ unwrap_or w 0 + 1 →
    (t y : ℕ) → count_at f (t, y) ≡ count_at g (t, y) + cond (eqb s t && eqb x y) 1 0
count_lowered f g s x w writes less t y = grind (arith, common_steps, by_key, count_written)
