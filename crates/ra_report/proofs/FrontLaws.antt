-- Numbers that are read from the front of a line, and the front of an entry's line.
use Rattle.std.proofs.Common.{◌≡◌, ℕ, ◌+◌, ◌-◌, ◌*◌, ◌^◌, ◌<◌, ◌≤◌, Bool, true, false, cond, nat_lt, if◌then◌else◌, List, [], ◌∷◌, ◌++◌, length, take, drop, get_or, Option, Some, None, refl, sym, ◌∙◌, ap, arith, append_assoc, length-append, lt-ltb}
use Rattle.std.proofs.lemmas.Bool.Decides.{nat_tests}
use Rattle.std.proofs.lemmas.List.{append-nil, take-append-drop, take-append-le, take-append-drop, drop-drop, drop_all}
use Rattle.std.proofs.lemmas.Option.{none-some}
use Rattle.std.proofs.Math.Seq.{drop-cons, take-append_seam}
use Rattle.std.specs.Char.{is_ascii_digit}
use Rattle.ra_journal.specs.declared.entries.Entry.{Entry}
use Rattle.ra_report.specs.declared.front.Front.{Front}
use Rattle.ra_report.specs.Numbers.{is_digit, told, past}
use Rattle.ra_report.specs.Texts.{number_text}
use Rattle.ra_report.specs.JournalTexts.{entry_line, kind_text, steps_text, verdict_text}
use Rattle.ra_report.specs.Fronts.{IsSmallFront, FindsRest, four_numbers}
use Rattle.ra_report.proofs.NumberTexts.{number_told, number_past}
use Rattle.ra_report.proofs.EntryTexts.{blank, entry_parts}
use Rattle.ra_report.proofs.LengthLaws.{label_length, number_length}

-- the test of a program is the definition's
pub digit_test : (b : ℕ) → is_ascii_digit b ≡ is_digit b
unfolding is_digit
digit_test b = grind (arith, nat_tests)

value_of : Option ℕ → ℕ → ℕ
value_of None d = d
value_of (Some x) d = x

module _ (bytes : List ℕ) where
  -- the digits in front, one by one
  pub past_digit : (i : ℕ) → i < length bytes → is_ascii_digit (get_or bytes i 0) ≡ true →
      past (drop i bytes) ≡ past (drop (i + 1) bytes)
  unfolding past
  past_digit i within digit = grind (arith, drop-cons, digit_test)

  pub past_other : (i : ℕ) → i < length bytes → is_ascii_digit (get_or bytes i 0) ≡ false →
      past (drop i bytes) ≡ drop i bytes
  unfolding past
  past_other i within other = grind (arith, drop-cons, digit_test)

  pub past_end : (i : ℕ) → length bytes ≤ i → past (drop i bytes) ≡ drop i bytes
  unfolding past
  past_end i all = grind (arith, drop_all)

  module _ (rest : List ℕ) where
    module _ (from k n : ℕ) where
      -- what follows after a number and a space
      pub behind_found : drop from bytes ≡ number_text n ++ 32 ∷ rest →
          drop k (drop from bytes) ≡ past (drop from bytes) → drop (from + k) bytes ≡ 32 ∷ rest
      behind_found e over =
          sym (drop-drop k from bytes) ∙ over ∙ ap past e ∙ number_past n _ (blank rest)

      pub behind_next : drop from bytes ≡ number_text n ++ 32 ∷ rest →
          drop k (drop from bytes) ≡ past (drop from bytes) → FindsRest bytes rest (Some (from + k + 1))
      behind_next e over = record {
        at = from + k + 1;
        is = refl;
        follows = sym (drop-drop 1 (from + k) bytes) ∙ ap (drop 1) (behind_found e over);
      }

      pub behind_none : length bytes ≤ from + k →
          drop from bytes ≡ number_text n ++ 32 ∷ rest → drop k (drop from bytes) ≡ past (drop from bytes) → ⊥
      behind_none all e over = grind (arith, drop_all, behind_found)

    pub is_behind : (found : Option ℕ) (at : ℕ) → found ≡ Some at → FindsRest bytes rest found →
        drop at bytes ≡ rest
    unfolding value_of
    is_behind found at here b = grind arith

    pub not_behind : (found : Option ℕ) → found ≡ None → FindsRest bytes rest found → ⊥
    not_behind found none b = none-some b.at (sym none ∙ b.is)

    -- a number from a place on
    pub number_here : (at n : ℕ) → drop at bytes ≡ number_text n ++ 32 ∷ rest →
        told 0 (drop at bytes) ≡ n
    number_here at n e = ap (told 0) e ∙ number_told n _ (blank rest)

module _ (n : ℕ) (bytes : List ℕ) (i : ℕ) where
  pub told_digit : i < length bytes → is_ascii_digit (get_or bytes i 0) ≡ true →
      told n (drop i bytes) ≡ told (10 * n + (get_or bytes i 0 - 48)) (drop (i + 1) bytes)
  unfolding told
  told_digit within digit = grind (arith, drop-cons, digit_test)

  pub told_other : i < length bytes → is_ascii_digit (get_or bytes i 0) ≡ false →
      told n (drop i bytes) ≡ n
  unfolding told
  told_other within other = grind (arith, drop-cons, digit_test)

  pub told_end : length bytes ≤ i → told n (drop i bytes) ≡ n
  unfolding told
  told_end all = ap (told n) (drop_all i bytes all)

-- more digits make no number less
pub told_least : (n : ℕ) (bytes : List ℕ) → n ≤ told n bytes
unfolding told
told_least n [] = omega arith
told_least n (b ∷ bytes) =
    either (is_digit b) (let more = told_least (10 * n + (b - 48))
    bytes in omega arith)
  where
    either : (t : Bool) → n ≤ told (10 * n + (b - 48)) bytes → n ≤ cond t (told (10 * n + (b - 48)) bytes) n
    either true more = more
    either false more = omega arith

-- what is after the four numbers of an entry's line
pub after_front : Entry → List ℕ
after_front e = kind_text e.mv.kind ++ 32 ∷ (steps_text e.mv.steps ++ (verdict_text e.verdict ++ 10 ∷ []))

pub entry_numbers : (j : ℕ) (e : Entry) → entry_line j e ≡ four_numbers j e.worker e.k e.q (after_front e)
unfolding after_front
entry_numbers j e = sym (append-nil _) ∙ entry_parts j e []

four_apart : (j w k q : ℕ) (x : List ℕ) → four_numbers j w k q x ≡ four_numbers j w k q [] ++ x
four_apart j w k q x = sym (simp append_assoc)

four_length : (j w k q : ℕ) → length (four_numbers j w k q []) ≡ length (number_text j) + length (number_text w)
    + length (number_text k) + length (number_text q) + 4
four_length j w k q = rw (length-append, length-append, length-append, length-append) (omega arith)

cut_front : (line rest front more : List ℕ) → line ++ rest ≡ front ++ more → length front ≤ length line →
    line ≡ front ++ drop (length front) line
cut_front line rest front more e few =
    sym (take-append-drop _ line)
    ∙ ap (λ xs. xs ++ drop (length front) line) (sym (take-append-le _ line rest few)
    ∙ ap (take (length front)) e ∙ take-append_seam front more)

pub cut_numbers : (j : ℕ) (e : Entry) (line rest : List ℕ) → IsSmallFront j e → 74 ≤ length line →
    line ++ rest ≡ entry_line j e →
    line ≡ four_numbers j e.worker e.k e.q (drop (length (four_numbers j e.worker e.k e.q [])) line)
cut_numbers j e line rest small long same = grind (arith, number_length, label_length, four_length, cut_front, after_front, entry_numbers, four_apart)

abbrev pub front_is : ℕ → ℕ → Front
front_is w q = record { worker = w; q = q }

-- if three numbers were passed, the second and the fourth come after them
pub numbers_there : (line : List ℕ) (j w k q : ℕ) (rest : List ℕ) (r s t : Option ℕ) (a b c : ℕ)
    → ((n : ℕ) (x : List ℕ) → drop 0 line ≡ number_text n ++ 32 ∷ x → FindsRest line x r) → r ≡ Some a
    → ((n : ℕ) (x : List ℕ) → drop a line ≡ number_text n ++ 32 ∷ x → FindsRest line x s) → s ≡ Some b
    → ((n : ℕ) (x : List ℕ) → drop b line ≡ number_text n ++ 32 ∷ x → FindsRest line x t) → t ≡ Some c
    → line ≡ four_numbers j w k q rest → (told 0 (drop a line) ≡ w) × (told 0 (drop c line) ≡ q)
numbers_there line j w k q rest r s t a b c first at_a second at_b third at_c e = grind (arith, is_behind, number_here)

-- a number with one digit more
either_more : (fits : Bool) (more value : ℕ) → (if fits then Some more else None) ≡ Some value → value ≡ more
unfolding value_of
either_more true more value e = ap (λ o. value_of o 0) (sym e)
either_more false more value e = absurd (none-some value e)

pub more_is : (more value : ℕ) (found : Option ℕ) → found ≡ (if nat_lt more (2 ^ 64) then Some more else None) →
    found ≡ Some value → value ≡ more
more_is more value found is there = grind (arith, either_more)

pub no_more : (more all : ℕ) (found : Option ℕ) → found ≡ (if nat_lt more (2 ^ 64) then Some more else None) →
    found ≡ None → more ≤ all → all < 2 ^ 64 → ⊥
no_more more all found is none least small = grind (arith, lt-ltb, none-some)

pub front_same : (a w b q : ℕ) → a ≡ w → b ≡ q → front_is a b ≡ front_is w q
front_same a w b q e f = cc

-- a number that was found
pub found_is : (n number : ℕ) (found : Option ℕ) → (number < 2 ^ 64 → found ≡ Some number) → number ≡ n → n < 2 ^ 64 →
    found ≡ Some n
found_is n number found is same small = grind arith

pub same_found : (a b : ℕ) (found : Option ℕ) → found ≡ Some a → found ≡ Some b → a ≡ b
unfolding value_of
same_found a b found one two = grind arith
