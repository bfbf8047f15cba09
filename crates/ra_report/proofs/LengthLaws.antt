-- How long the texts of numbers are, and those of the words of an entry.
use Rattle.std.proofs.Common.{◌≡◌, ℕ, zero, suc, ◌+◌, ◌*◌, ◌/◌, ◌%◌, ◌^◌, ◌<◌, ◌≤◌, Bool, true, false, cond, eqb, List, ◌∷◌, ◌++◌, length, take, get_or, codes, refl, sym, arith, subst, length-append, lt_trans}
use Rattle.std.proofs.Math.Nat.{pow-succ', div-eq_of_lt}
use Rattle.std.proofs.Math.Seq.{take-length}
use Rattle.std.specs.Fmt.{digits_onto, digit_glyph}
use Rattle.ra_moves.specs.declared.steps.MoveKind.{MoveKind}
use Rattle.ra_moves.specs.declared.steps.MoveKind.TheVariants.{Shift, Swap, Chain}
use Rattle.ra_moves.specs.declared.steps.Step.{Step}
use Rattle.ra_moves.specs.declared.verdicts.Verdict.TheVariants.{Done, Refused}
use Rattle.ra_base.specs.declared.causes.Cause.{Cause}
use Rattle.ra_journal.specs.declared.entries.Entry.{Entry}
use Rattle.ra_report.specs.Texts.{space, number_text, with_one, with_two, with_three, with_four, cause_text}
use Rattle.ra_report.specs.JournalTexts.{kind_text, step_text, step_word, steps_text, verdict_text, entry_front, entry_line}
use Rattle.ra_report.proofs.PieceLemmas.{words_take}

fewer : (k n : ℕ) → n < 10 ^ suc k → n / 10 < 10 ^ k
fewer k n few = grind (arith, pow-succ')

-- a text has at most this number of digits in front
digits_length : (f k n : ℕ) (x : List ℕ) → n < 10 ^ suc k → length (digits_onto f 10 false n x) ≤ suc k + length x
digits_length zero k n x few = omega arith
digits_length (suc f) zero n x few =
    let none : n / 10 ≡ 0 = div-eq_of_lt few in
    subst (λ (q : ℕ).
    length (cond (eqb q 0) (digit_glyph false (n % 10) ∷ x)
    (digits_onto f 10 false (n / 10) (digit_glyph false (n % 10) ∷ x))) ≤ 1 + length x) (sym none)
    (omega arith)
digits_length (suc f) (suc k) n x few =
    either (eqb (n / 10) 0) _ _ (omega arith)
    (let more : length (digits_onto f 10 false (n / 10) (digit_glyph false (n % 10) ∷ x)) ≤ suc k
    + length (digit_glyph false (n % 10) ∷ x) =
    digits_length f k (n / 10) (digit_glyph false (n % 10) ∷ x) (fewer (suc k) n few) in omega arith)
  where
    either : (b : Bool) (xs ys : List ℕ) → length xs ≤ suc (suc k) + length x → length ys ≤ suc (suc k) + length x →
        length (cond b xs ys) ≤ suc (suc k) + length x
    either true xs ys p q = p
    either false xs ys p q = q

pub text_length : (k n : ℕ) → n < 10 ^ suc k → length (number_text n) ≤ suc k
unfolding number_text
text_length k n few = grind (arith, digits_length)

pub label_length : (n : ℕ) → n < 2 ^ 32 → length (number_text n) ≤ 10
label_length n small = text_length 9 n (let most : 2 ^ 32 < 10 ^ 10 = omega arith in lt_trans small most)

pub number_length : (n : ℕ) → n < 2 ^ 64 → length (number_text n) ≤ 20
number_length n small = text_length 19 n (let most : 2 ^ 64 < 10 ^ 20 = omega arith in lt_trans small most)

pub cost_length : (n : ℕ) → n < 2 ^ 128 → length (number_text n) ≤ 39
cost_length n small = text_length 38 n (let most : 2 ^ 128 < 10 ^ 39 = omega arith in lt_trans small most)

module _ (word : List ℕ) (a : ℕ) where
  -- words and numbers
  pub one_length : length (with_one word a) ≡ length word + 1 + length (number_text a)
  one_length = rw (length-append, length-append) refl

  module _ (b : ℕ) where
    pub two_length : length (with_two word a b) ≡ length word + 2 + length (number_text a)
        + length (number_text b)
    two_length = let one = one_length in rw (length-append, length-append) (omega arith)

    module _ (c : ℕ) where
      pub three_length : length (with_three word a b c) ≡ length word + 3
          + length (number_text a) + length (number_text b) + length (number_text c)
      three_length = let two = two_length in rw (length-append, length-append) (omega arith)

      pub four_length : (d : ℕ) → length (with_four word a b c d) ≡ length word + 4
          + length (number_text a) + length (number_text b) + length (number_text c) + length (number_text d)
      four_length d = let three = three_length in rw (length-append, length-append) (omega arith)

      pub three_short : length word ≤ 10 → length (number_text a) ≤ 10 →
          length (number_text b) ≤ 10 → length (number_text c) ≤ 10 → length (with_three word a b c) ≤ 105
      three_short w x y z = grind (arith, three_length)

      pub four_short : (d : ℕ) → length word ≤ 10 → length (number_text a) ≤ 10 →
          length (number_text b) ≤ 10 → length (number_text c) ≤ 20 → length (number_text d) ≤ 10 →
          length (with_four word a b c d) ≤ 105
      four_short d w x y z u = grind (arith, four_length)

    pub two_short : length word ≤ 10 → length (number_text a) ≤ 10 →
        length (number_text b) ≤ 10 → length (with_two word a b) ≤ 105
    two_short w x y = grind (arith, two_length)

  -- short words and numbers
  pub one_short : length word ≤ 10 → length (number_text a) ≤ 10 →
      length (with_one word a) ≤ 105
  one_short w x = grind (arith, one_length)

pub rise_short : (a b c : ℕ) → length (number_text a) ≤ 39 → length (number_text b) ≤ 39 → length (number_text c) ≤ 20 →
    length (with_three (codes "rise") a b c) ≤ 105
rise_short a b c x y z = let l = three_length (codes "rise") a b c in omega arith

pub kind_length : (k : MoveKind) → length (kind_text k) ≤ 5
unfolding kind_text
kind_length Shift = omega arith
kind_length Swap = omega arith
kind_length Chain = omega arith

pub step_length : (s : Step) → length (number_text s.process.0) ≤ 10 → length (number_text s.from.0) ≤ 10 →
    length (number_text s.to.0) ≤ 10 → length (step_text s ++ space) ≤ 33
unfolding step_text
step_length s p f t = rw (length-append, length-append, length-append, length-append, length-append) (omega arith)

pub entry_length : (j : ℕ) (e : Entry) → length (number_text j) ≤ 20 → length (number_text e.worker) ≤ 10 →
    length (number_text e.k) ≤ 20 → length (number_text e.q) ≤ 20 → length (steps_text e.mv.steps) ≤ 99 →
    length (verdict_text e.verdict) ≤ 113 → length (entry_line j e) ≤ 293
unfolding entry_line entry_front
entry_length j e place worker k q steps verdict = grind (arith, kind_length, length-append)

pub verdict_done : (cost : ℕ) → length (number_text cost) ≤ 39 → length (verdict_text (Done cost)) ≤ 113
unfolding verdict_text
verdict_done cost few = grind (arith, one_length)

pub verdict_refused : (cause : Cause) → length (cause_text cause) ≤ 105 → length (verdict_text (Refused cause)) ≤ 113
unfolding verdict_text
verdict_refused cause few = rw (length-append, length-append) (omega arith)

module _ (steps : List Step) where
  -- one step more
  steps_more : (i : ℕ) (d : Step) → i < length steps →
      steps_text (take (i + 1) steps) ≡ steps_text (take i steps) ++ (step_text (get_or steps i d) ++ space)
  unfolding steps_text
  steps_more i d within = words_take step_word steps i d within

  pub steps_length : (i : ℕ) (d : Step) → i < length steps → length (steps_text (take i steps)) ≤
      33 * i → length (step_text (get_or steps i d) ++ space) ≤ 33 → length (steps_text (take (i + 1) steps)) ≤
      33 * (i + 1)
  steps_length i d within before one = rw (steps_more i d within, length-append) (omega arith)

  pub no_steps_length : length (steps_text (take 0 steps)) ≤ 0
  unfolding steps_text
  no_steps_length = omega arith

  pub all_steps_length : (n : ℕ) → n ≡ length steps → n ≤ 3 → length (steps_text (take n steps)) ≤
      33 * n → length (steps_text steps) ≤ 99
  all_steps_length n all few short = grind (arith, take-length)
