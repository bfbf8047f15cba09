-- One line after another of some bytes.
use Rattle.std.proofs.Common.{◌≡◌, ℕ, zero, suc, ◌+◌, ◌-◌, ◌<◌, ◌≤◌, Bool, true, false, cond, eqb, List, [], ◌∷◌, ◌++◌, length, take, drop, Some, None, refl, sym, ap, ◌∙◌, subst, arith, take-append-drop, take-add, drop-drop, length-append}
use Rattle.std.specs.Prelude.{slice_get}
use Rattle.std.proofs.lemmas.Bool.{le-ltb, lt-ltb}
use Rattle.std.proofs.lemmas.List.{append-nil, append_cancel_right}
use Rattle.std.proofs.lemmas.Option.{slice_get_past}
use Rattle.ra_base.proofs.Searches.{first_found, first_none_from}
use Rattle.ra_token.specs.Lines.{lines_of, line_at, ends_line, body_of}
use Rattle.ra_token.proofs.SplitLaws.{lines_append}
use Rattle.ra_verify.specs.Reading.{AreLines}
use Rattle.ra_verify.specs.WrongLines.{most_bytes, if_over_long, over_long, first_over_long}
use Rattle.ra_verify.proofs.PlaceLemmas.{got_behind}

-- what ends with LF does so after other bytes
ends_cons : (b : ℕ) (z : List ℕ) → ends_line z ≡ true → ends_line (b ∷ z) ≡ true
unfolding ends_line
ends_cons b [] e = absurd (cc)
ends_cons b (c ∷ z) e = e

pub ends_append : (x y : List ℕ) → ends_line y ≡ true → ends_line (x ++ y) ≡ true
ends_append [] y e = e
ends_append (b ∷ x) y e = ends_cons b (x ++ y) (ends_append x y e)

-- a line that ends with LF is longer than its body
pub body_less : (x : List ℕ) → ends_line x ≡ true → length (body_of x) < length x
unfolding ends_line body_of
body_less [] e = absurd (cc)
body_less (b ∷ []) e = rw e (omega arith)
body_less (b ∷ c ∷ x) e = either (eqb b 10) (body_less (c ∷ x) e)
  where
    either : (t : Bool) → length (body_of (c ∷ x)) < length (c ∷ x) → length (cond t [] (b ∷ body_of (c ∷ x))) <
        length (b ∷ c ∷ x)
    either true less = omega arith
    either false less = omega arith

-- the first bytes of a line, if they are no more than its body has, have no LF
pub body_front : (n : ℕ) (x : List ℕ) → n ≤ length (body_of x) → length (body_of (take n x)) ≡ n
unfolding body_of
body_front zero x within = refl
body_front (suc n) [] within = absurd (omega arith)
body_front (suc n) (b ∷ x) within = either (eqb b 10) within (λ few. body_front n x few)
  where
    either : (t : Bool) → suc n ≤ length (cond t [] (b ∷ body_of x)) →
        (n ≤ length (body_of x) → length (body_of (take n x)) ≡ n) → length (cond t [] (b ∷ body_of (take n x))) ≡ suc n
    either true few more = absurd (omega (arith, few))
    either false few more = omega (arith, more (omega (arith, few)))

lines_none : lines_of [] ≡ []
unfolding lines_of
lines_none = refl

module _ (bytes : List ℕ) where
  all_of : (after : ℕ) → drop after bytes ≡ [] → take after bytes ≡ bytes
  all_of after none = sym (append-nil (take after bytes)) ∙ ap (λ (t : List ℕ). take after bytes ++ t) (sym none)
      ∙ take-append-drop after bytes

  module _ (place : ℕ) where
    module _ (after : ℕ) where
      drop_on : place ≤ after → drop (after - place) (drop place bytes) ≡
          drop after bytes
      drop_on on = drop-drop (after - place) place bytes
          ∙ ap (λ (k : ℕ). drop k bytes) {x = place + (after - place)} {y = after} (omega (arith, on))

      pub take_on : place ≤ after →
          take after bytes ≡ take place bytes ++ take (after - place) (drop place bytes)
      take_on on = ap (λ (k : ℕ). take k bytes) {x = after} {y = place + (after - place)}
          (omega (arith, on)) ∙ take-add place (after - place) bytes

      pub none_on : place ≤ after → drop place bytes ≡ [] → drop after bytes ≡ []
      none_on on none =
          sym (drop_on on) ∙ ap (drop (after - place)) none ∙ drop_none (after - place)
        where
          drop_none : (n : ℕ) → drop {A = ℕ} n [] ≡ []
          drop_none zero = refl
          drop_none (suc n) = refl

      -- the last line, without LF
      pub lines_last : (n : ℕ) → AreLines bytes place n →
          lines_of (drop place bytes) ≡ drop place bytes ∷ [] → drop after bytes ≡ [] → AreLines bytes after (n + 1)
      lines_last n given lines none =
          let all = all_of after none in
          record {
            lines = sym (append-nil (lines_of bytes))
                ∙ ap (λ (t : List (List ℕ)). lines_of bytes ++ t) (sym (ap lines_of none ∙ lines_none))
                ∙ ap (λ (t : List ℕ). lines_of t ++ lines_of (drop after bytes)) (sym all);
            number = omega (
              arith,
              ap (λ (t : List ℕ). length (lines_of t)) all,
              ap (λ (t : List (List ℕ)). length t) given.lines,
              length-append (lines_of (take place bytes)) (lines_of (drop place bytes)),
              ap (λ (t : List (List ℕ)). length t) lines,
              given.number,
            );
          }

      pub lines_still : (n : ℕ) → place ≤ after → AreLines bytes place n →
          drop place bytes ≡ [] → AreLines bytes after n
      lines_still n on given none =
          let behind = none_on on none in
          let all : take after bytes ≡ take place bytes = all_of after behind ∙ sym (all_of place none) in
          record {
            lines = given.lines ∙ ap (λ (t : List ℕ). lines_of t ++ lines_of (drop place bytes)) (sym all)
                ∙ ap (λ (t : List ℕ). lines_of (take after bytes) ++ lines_of t) (none ∙ sym behind);
            number = ap (λ (t : List ℕ). length (lines_of t)) all ∙ given.number;
          }

    -- before the first line
    pub lines_start : place ≡ 0 → AreLines bytes place 0
    lines_start start = rw start (record {
      lines = ap (λ (t : List (List ℕ)). t ++ lines_of bytes) (sym lines_none);
      number = ap (λ (t : List (List ℕ)). length t) lines_none;
    })

    -- and none
    pub lines_end : (n : ℕ) → AreLines bytes place n → drop place bytes ≡ [] →
        length (lines_of bytes) ≡ n
    lines_end n given none = omega (
      arith,
      ap (λ (t : List (List ℕ)). length t) given.lines,
      length-append (lines_of (take place bytes)) (lines_of (drop place bytes)),
      ap (λ (t : List ℕ). length (lines_of t)) none,
      ap (λ (t : List (List ℕ)). length t) lines_none,
      given.number,
    )

  -- a line that was given
  pub piece_is : (line : List ℕ) (place after : ℕ) → place ≤ after → drop place bytes ≡ line ++ drop after bytes →
      take (after - place) (drop place bytes) ≡ line
  piece_is line place after on split =
      let behind : drop (after - place) (drop place bytes) ≡ drop after bytes = drop_on place after on in
      append_cancel_right (take (after - place) (drop place bytes)) line (drop after bytes)
      (ap (λ (t : List ℕ). take (after - place) (drop place bytes) ++ t) (sym behind)
      ∙ take-append-drop (after - place) (drop place bytes) ∙ split)

  -- one line more
  pub lines_more : (line : List ℕ) (place after n : ℕ) → place ≤ after → AreLines bytes place n →
      drop place bytes ≡ line ++ drop after bytes → lines_of (drop place bytes) ≡ line ∷ lines_of (drop after bytes) →
      ends_line line ≡ true → AreLines bytes after (n + 1)
  lines_more line place after n on given split lines ended =
      let ends : ends_line (take after bytes) ≡ true =
      subst (λ (t : List ℕ). ends_line t ≡ true)
      (sym (take_on place after on
      ∙ ap (λ (t : List ℕ). take place bytes ++ t) (piece_is line place after on split)))
      (ends_append (take place bytes) line ended) in
      let both : lines_of bytes ≡ lines_of (take after bytes) ++ lines_of (drop after bytes) =
      ap lines_of (sym (take-append-drop after bytes)) ∙ lines_append (take after bytes) (drop after bytes) ends in
      record {
        lines = both;
        number = omega (
          arith,
          ap (λ (t : List (List ℕ)). length t) both,
          length-append (lines_of (take after bytes)) (lines_of (drop after bytes)),
          ap (λ (t : List (List ℕ)). length t) given.lines,
          length-append (lines_of (take place bytes)) (lines_of (drop place bytes)),
          ap (λ (t : List (List ℕ)). length t) lines,
          given.number,
        );
      }

  -- line n is the one that comes next
  pub line_next : (line : List ℕ) (others : List (List ℕ)) (place n : ℕ) → AreLines bytes place n →
      lines_of (drop place bytes) ≡ line ∷ others → line_at n bytes ≡ Some line
  unfolding line_at
  line_next line others place n given lines =
      ap (λ (t : List (List ℕ)). slice_get t n)
      (given.lines ∙ ap (λ (t : List (List ℕ)). lines_of (take place bytes) ++ t) lines)
      ∙ ap (slice_get (lines_of (take place bytes) ++ line ∷ others)) {x = n}
      {y = length (lines_of (take place bytes)) + 0} (omega (arith, given.number))
      ∙ got_behind (lines_of (take place bytes)) (line ∷ others) 0

  -- whether a line is over long
  pub over_at : (line : List ℕ) (n : ℕ) → line_at n bytes ≡ Some line → most_bytes n < length (body_of line) →
      over_long bytes n ≡ Some (n + 1)
  unfolding over_long if_over_long
  over_at line n at long = ap (if_over_long n) at
      ∙ ap (λ (t : Bool). cond t (Some (n + 1)) None) (lt-ltb (most_bytes n) (length (body_of line)) long)

  pub short_at : (line : List ℕ) (n : ℕ) → line_at n bytes ≡ Some line → length (body_of line) ≤ most_bytes n →
      over_long bytes n ≡ None
  unfolding over_long if_over_long
  short_at line n at short = ap (if_over_long n) at
      ∙ ap (λ (t : Bool). cond t (Some (n + 1)) None) (le-ltb (most_bytes n) (length (body_of line)) short)

  pub short_past : (n : ℕ) → length (lines_of bytes) ≤ n → over_long bytes n ≡ None
  unfolding over_long if_over_long line_at
  short_past n past = ap (if_over_long n) (slice_get_past (lines_of bytes) n past)

  -- the first one
  pub first_over : (n : ℕ) → n < 10 → ((k : ℕ) → k < n → over_long bytes k ≡ None) →
      over_long bytes n ≡ Some (n + 1) → first_over_long bytes ≡ Some (n + 1)
  unfolding first_over_long
  first_over n within before here =
      first_found n 10 (over_long bytes) (n + 1) within (first_none_from n (over_long bytes) before) here

  pub none_over : ((k : ℕ) → k < 10 → over_long bytes k ≡ None) → first_over_long bytes ≡ None
  unfolding first_over_long
  none_over short = first_none_from 10 (over_long bytes) short
