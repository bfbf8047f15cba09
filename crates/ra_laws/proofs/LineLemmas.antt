-- Each line of bytes is whole.
use Rattle.std.proofs.Common.{◌≡◌, ℕ, zero, suc, ◌<◌, Bool, true, false, cond, eqb, List, [], ◌∷◌, length, slice_get, Option, Some, None, refl, sym, ◌∙◌, ap, arith, subst}
use Rattle.std.proofs.lemmas.Option.{none-some}
use Rattle.ra_token.specs.Lines.{onto_first, lines_of, line_at, ends_line}
use Rattle.ra_laws.specs.LineLaws.{IsWhole}
use Rattle.ra_token.proofs.SplitLaws.{lines_end, lines_onto}

ends_more : (b c : ℕ) (line : List ℕ) → ends_line (c ∷ line) ≡ true → ends_line (b ∷ c ∷ line) ≡ true
unfolding ends_line
ends_more b c line e = e

value_of : (a b : List ℕ) → Some a ≡ Some b → a ≡ b
value_of a b e = ap (λ (o : Option (List ℕ)). from_some o) e
  where
    from_some : Option (List ℕ) → List ℕ
    from_some None = []
    from_some (Some x) = x

module _ (b : ℕ) (bytes : List ℕ) where
  -- each line is whole
  whole_first : eqb b 10 ≡ true → IsWhole (b ∷ bytes) 0 (b ∷ [])
  unfolding ends_line lines_of
  whole_first test = record { some = omega arith; one = lines_end b [] test; ended = λ more. test }

  -- one more byte in front: of a first line that begins with it, and of a later line
  whole_start : (line : List ℕ) → eqb b 10 ≡ false →
      (1 < length (onto_first b (lines_of bytes)) → 1 < length (lines_of bytes)) → IsWhole bytes 0 line →
      IsWhole (b ∷ bytes) 0 (b ∷ line)
  whole_start [] test long w = absurd (let none : 0 < 0 = w.some in omega arith)
  whole_start (c ∷ line) test long w = record {
    some = omega arith;
    one = lines_onto b (c ∷ line) test ∙ ap (onto_first b) w.one;
    ended = λ more. ends_more b c line (w.ended (long (subst (λ ls. 1 < length ls) (lines_onto b bytes test) more)));
  }

  only_line : eqb b 10 ≡ false → lines_of bytes ≡ [] → IsWhole (b ∷ bytes) 0 (b ∷ [])
  unfolding lines_of
  only_line test none = record {
    some = omega arith;
    one = lines_onto b [] test;
    ended = λ more.
        absurd (let long : length (lines_of (b ∷ bytes)) ≡
        1 = ap length (lines_onto b bytes test ∙ ap (onto_first b) none) in omega arith);
  }

  module _ (line : List ℕ) where
    whole_later : (n : ℕ) → length (lines_of (b ∷ bytes)) ≡ suc (length (lines_of bytes)) →
        IsWhole bytes n line → IsWhole (b ∷ bytes) (suc n) line
    whole_later n long w = record { some = w.some; one = w.one; ended = λ more. w.ended (omega arith) }

    whole_behind : (n : ℕ) → length (lines_of (b ∷ bytes)) ≡ length (lines_of bytes) →
        IsWhole bytes (suc n) line → IsWhole (b ∷ bytes) (suc n) line
    whole_behind n long w = record { some = w.some; one = w.one; ended = λ more. w.ended (omega arith) }

    whole_end : (n : ℕ) → eqb b 10 ≡ true →
        ((m : ℕ) (l : List ℕ) → slice_get (lines_of bytes) m ≡ Some l → IsWhole bytes m l) →
        slice_get ((b ∷ []) ∷ lines_of bytes) n ≡ Some line → IsWhole (b ∷ bytes) n line
    whole_end zero test below e =
        subst (IsWhole (b ∷ bytes) 0) (value_of (b ∷ []) line e) (whole_first test)
    whole_end (suc n) test below e =
        whole_later n (ap length (lines_end b bytes test)) (below n line e)

    whole_in : (n : ℕ) (ls : List (List ℕ)) → eqb b 10 ≡ false → lines_of bytes ≡ ls →
        ((m : ℕ) (l : List ℕ) → slice_get ls m ≡ Some l → IsWhole bytes m l) → slice_get (onto_first b ls) n ≡ Some line →
        IsWhole (b ∷ bytes) n line
    whole_in zero [] test all below e =
        subst (IsWhole (b ∷ bytes) 0) (value_of (b ∷ []) line e) (only_line test all)
    whole_in (suc n) [] test all below e = absurd (none-some line e)
    whole_in zero (l ∷ ls) test all below e =
        subst (IsWhole (b ∷ bytes) 0) (value_of (b ∷ l) line e)
        (whole_start l test
        (λ more. subst (λ xs. 1 < length xs) (sym all) (subst (λ xs. 1 < length (onto_first b xs)) all more))
        (below 0 l refl))
    whole_in (suc n) (l ∷ ls) test all below e =
        whole_behind n (ap length (lines_onto b bytes test ∙ ap (onto_first b) all) ∙ sym (ap length all))
        (below (suc n) line e)

pub line_whole : (bytes : List ℕ) (n : ℕ) (line : List ℕ) → line_at n bytes ≡ Some line → IsWhole bytes n line
unfolding line_at lines_of
line_whole [] n line e = absurd (none-some line e)
line_whole (b ∷ bytes) n line e = either (eqb b 10) (line_whole bytes) refl e
  where
    either : (is : Bool) → ((m : ℕ) (l : List ℕ) → slice_get (lines_of bytes) m ≡ Some l → IsWhole bytes m l) →
        eqb b 10 ≡ is → slice_get (cond is ((b ∷ []) ∷ lines_of bytes) (onto_first b (lines_of bytes))) n ≡ Some line →
        IsWhole (b ∷ bytes) n line
    either true below test at = whole_end b bytes line n test below at
    either false below test at = whole_in b bytes line n (lines_of bytes) test refl below at
