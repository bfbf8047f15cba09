-- The decimal text of a number tells the number, whatever follows that begins with no digit.
use Rattle.std.proofs.Common.{◌≡◌, ℕ, zero, suc, ◌+◌, ◌-◌, ◌*◌, ◌/◌, ◌%◌, ◌^◌, ◌<◌, ◌≤◌, Bool, true, false, cond, eqb, List, [], ◌∷◌, ◌++◌, get_or, refl, sym, ◌∙◌, ap, arith, lt-ltb, eqb-true, pow-add, div-lt_iff_lt-mul}
use Rattle.std.proofs.lemmas.Bool.Decides.{nat_tests}
use Rattle.std.proofs.Math.Nat.{pow-succ', div-eq_of_lt}
use Rattle.std.specs.Fmt.{digits_onto, digit_glyph, decimal, digits}
use Rattle.ra_report.specs.Numbers.{is_digit, told, past}
use Rattle.ra_report.specs.Texts.{number_text}

-- the text begins with no digit
pub record Ends (text : List ℕ) : Type 0 where
  pub no_digit : is_digit (get_or text 0 0) ≡ false

-- the text begins with a digit
pub record Starts (text : List ℕ) : Type 0 where
  pub digit : is_digit (get_or text 0 0) ≡ true

digit_of : (d : ℕ) → d < 10 → is_digit (48 + d) ≡ true
unfolding is_digit
digit_of d small = grind (arith, nat_tests)

past_ends : (x : List ℕ) → Ends x → past x ≡ x
unfolding past
past_ends [] ends = refl
past_ends (b ∷ x) ends = ap (λ t. cond t (past x) (b ∷ x)) ends.no_digit

-- what doesn't look at a digit in front doesn't look at the digits of a number
pub skipped : {X : Type 0} (f : List ℕ → X) → ((n : ℕ) (x : List ℕ) → f (digit_glyph false (n % 10) ∷ x) ≡ f x) →
    (k n : ℕ) (x : List ℕ) → f (digits_onto k 10 false n x) ≡ f x
skipped f skip zero n x = refl
skipped {X} f skip (suc k) n x =
    either (eqb (n / 10) 0) _ _ (skip n x) (skipped f skip k (n / 10) (digit_glyph false (n % 10) ∷ x) ∙ skip n x)
  where
    either : (b : Bool) (xs ys : List ℕ) {z : X} → f xs ≡ z → f ys ≡ z → f (cond b xs ys) ≡ z
    either true xs ys p q = p
    either false xs ys p q = q

fewer : (k n : ℕ) → n < 10 ^ suc k → n / 10 < 10 ^ k
fewer k n few = grind (arith, pow-succ')

onto_append : (k n : ℕ) (x y : List ℕ) → digits_onto k 10 false n x ++ y ≡ digits_onto k 10 false n (x ++ y)
onto_append zero n x y = refl
onto_append (suc k) n x y = either (eqb (n / 10) 0) _ _ _ (onto_append k (n / 10) (digit_glyph false (n % 10) ∷ x) y)
  where
    either : (b : Bool) (one more all : List ℕ) → more ++ y ≡ all → cond b one more ++ y ≡ cond b (one ++ y) all
    either true one more all e = refl
    either false one more all e = e

over : (q : ℕ) → q + 1 ≤ 10 ^ q
over zero = omega arith
over (suc q) = rw pow-succ' (let h = over q in omega arith)

module _ (n : ℕ) where
  pub glyph_of : digit_glyph false (n % 10) ≡ 48 + n % 10
  glyph_of = grind (arith, lt-ltb)

  glyph_digit : is_digit (digit_glyph false (n % 10)) ≡ true
  glyph_digit = ap is_digit (glyph_of) ∙ digit_of (n % 10) (omega arith)

  told_ends : (x : List ℕ) → Ends x → told n x ≡ n
  unfolding told
  told_ends [] ends = refl
  told_ends (b ∷ x) ends = ap (λ t. cond t (told (10 * n + (b - 48)) x) n) ends.no_digit

  past_glyph : (x : List ℕ) → past (digit_glyph false (n % 10) ∷ x) ≡ past x
  unfolding past
  past_glyph x = grind (arith, glyph_digit)

  -- there are enough digits
  enough : n < 10 ^ (64 + n / 10 ^ 64)
  enough = grind (arith, pow-add, div-lt_iff_lt-mul, over)

  text_onto : (x : List ℕ) → number_text n ++ x ≡ digits_onto (64 + n / 10 ^ 64) 10 false n x
  unfolding number_text
  text_onto x = grind (arith, onto_append)

told_glyph : (m n : ℕ) (x : List ℕ) → told m (digit_glyph false (n % 10) ∷ x) ≡ told (10 * m + n % 10) x
unfolding told
told_glyph m n x = grind (arith, glyph_digit, glyph_of)

-- digits in front of a text: the last one, or more digits and it
either_told : (k n : ℕ) (x : List ℕ) → n < 10 ^ suc k →
    (told 0 (digits_onto k 10 false (n / 10) (digit_glyph false (n % 10) ∷ x)) ≡
    told (n / 10) (digit_glyph false (n % 10) ∷ x)) → (b : Bool) → eqb (n / 10) 0 ≡ b →
    told 0 (cond b (digit_glyph false (n % 10) ∷ x)
    (digits_onto k 10 false (n / 10) (digit_glyph false (n % 10) ∷ x))) ≡ told n x
either_told k n x few next true last = let none : n / 10 ≡ 0 = eqb-true _ _ last in told_glyph 0 n x
    ∙ ap (λ m. told m x) {x = 10 * 0 + n % 10} {y = n} (omega arith)
either_told k n x few next false more =
    next ∙ (told_glyph (n / 10) n x ∙ ap (λ m. told m x) {x = 10 * (n / 10) + n % 10} {y = n} (omega arith))

told_onto : (k n : ℕ) (x : List ℕ) → n < 10 ^ k → told 0 (digits_onto k 10 false n x) ≡ told n x
told_onto zero n x few = ap (λ m. told m x) {x = 0} {y = n} (omega arith)
told_onto (suc k) n x few =
    either_told k n x few (told_onto k (n / 10) (digit_glyph false (n % 10) ∷ x) (fewer k n few)) (eqb (n / 10) 0) refl

starts_onto : (k n : ℕ) (x : List ℕ) → Starts x → Starts (digits_onto k 10 false n x)
starts_onto zero n x starts = starts
starts_onto (suc k) n x starts =
    let one : Starts (digit_glyph false (n % 10) ∷ x) = record { digit = glyph_digit n } in
    either (eqb (n / 10) 0) _ _ one (starts_onto k (n / 10) _ one)
  where
    either : (b : Bool) (xs ys : List ℕ) → Starts xs → Starts ys → Starts (cond b xs ys)
    either true xs ys p q = p
    either false xs ys p q = q

starts_some : (k n : ℕ) (x : List ℕ) → 0 < k → Starts (digits_onto k 10 false n x)
starts_some zero n x some = absurd (omega arith)
starts_some (suc k) n x some =
    let one : Starts (digit_glyph false (n % 10) ∷ x) = record { digit = glyph_digit n } in
    either (eqb (n / 10) 0) _ _ one (starts_onto k (n / 10) _ one)
  where
    either : (b : Bool) (xs ys : List ℕ) → Starts xs → Starts ys → Starts (cond b xs ys)
    either true xs ys p q = p
    either false xs ys p q = q

pub number_skipped : {X : Type 0} (f : List ℕ → X) → ((n : ℕ) (x : List ℕ) → f (digit_glyph false (n % 10) ∷ x) ≡ f x) →
    (n : ℕ) (x : List ℕ) → f (number_text n ++ x) ≡ f x
number_skipped f skip n x = ap f (text_onto n x) ∙ skipped f skip (64 + n / 10 ^ 64) n x

pub number_told : (n : ℕ) (x : List ℕ) → Ends x → told 0 (number_text n ++ x) ≡ n
number_told n x ends = grind (arith, text_onto, told_onto, enough, told_ends)

pub number_past : (n : ℕ) (x : List ℕ) → Ends x → past (number_text n ++ x) ≡ x
number_past n x ends = number_skipped past past_glyph n x ∙ past_ends x ends

module _ (n : ℕ) where
  pub number_starts : (x : List ℕ) → Starts (number_text n ++ x)
  number_starts x = grind (arith, text_onto, starts_some)

  -- two equal texts tell one number, and go on alike
  pub number_then : (m : ℕ) (x y : List ℕ) → Ends x → Ends y → number_text n ++ x ≡ number_text m ++ y → (n ≡ m)
      × (x ≡ y)
  number_then m x y ends stops e = (
    sym (number_told n x ends) ∙ (ap (told 0) e ∙ number_told m y stops),
    sym (number_past n x ends)
        ∙ (ap past e ∙ number_past m y stops),
  )

  -- below 10 ^ 64 it is the text that std writes
  pub number_decimal : n < 10 ^ 64 → number_text n ≡ decimal n
  unfolding number_text digits
  number_decimal few = ap (λ q. digits_onto (64 + q) 10 false n []) {x = n / 10 ^ 64} {y = 0} (div-eq_of_lt few)

  -- and so is the text of each number of a program
  pub number_std : n < 2 ^ 128 → number_text n ≡ decimal n
  number_std few = grind (arith, number_decimal)

  pub decimal_number : n < 2 ^ 128 → decimal n ≡ number_text n
  decimal_number few = sym (number_std few)
