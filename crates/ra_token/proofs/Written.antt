-- Numbers that were written in decimals, with blanks between, are told as tokens: one blank and one number on.
use Rattle.std.proofs.Common.{◌≡◌, ℕ, zero, suc, ◌+◌, ◌*◌, ◌-◌, ◌^◌, ◌<◌, ◌≤◌, true, false, List, [], ◌∷◌, ◌++◌, length, map, take, drop, get_or, None, refl, sym, ap, ◌∙◌, subst, arith, add-zero, add-one, length-append, length-drop}
use Rattle.std.proofs.lemmas.Fmt.{decimal_is_IsNumeral}
use Rattle.std.proofs.lemmas.Int.Digits.{digits_value_more}
use Rattle.std.proofs.lemmas.List.{get_or_append_left, get_or-drop, drop-drop, take_all}
use Rattle.std.proofs.lemmas.Str.{digit_value_digit}
use Rattle.std.proofs.lemmas.Str.Parse.{digit_at, digits_value-take-le}
use Rattle.std.proofs.Math.Seq.{drop-append_seam}
use Rattle.std.specs.Char.{is_ascii_digit}
use Rattle.std.specs.Fmt.{decimal}
use Rattle.std.specs.Int.{IsInRange}
use Rattle.std.specs.Str.Parse.{IsNumeral, digits_value}
use Rattle.ra_token.specs.declared.answers.TheConstants.{LARGEST, PLACE_LIMIT}
use Rattle.ra_token.specs.Faults.{first_fault}
use Rattle.ra_token.specs.Reads.{IsBetween}
use Rattle.ra_token.specs.Runs.{is_blank}
use Rattle.ra_token.specs.Scan.{IsReached, InRun}
use Rattle.ra_token.specs.TokenList.{tokens}
use Rattle.ra_token.specs.Values.{value_of, values_from, AddsValues}
use Rattle.ra_token.proofs.Steps.{between_start, reached_here, reached_blank, ended_here, run_begins, run_more, run_ends, next_of}
use Rattle.ra_token.proofs.TokenLaws.{before_none}
use Rattle.ra_token.proofs.ValueLaws.{adds_none, adds_more}

-- these bytes are left of a file, and the tokens before them are these numbers
pub record Ahead (bytes rest numbers : List ℕ) : Type 0 where
  pub at : ℕ
  pub place : ℕ
  pub taken : ℕ
  pub adds : AddsValues bytes 0 at taken [] numbers
  pub reached : IsReached bytes at place
  pub left : drop place bytes ≡ rest
  pub short : length bytes ≤ PLACE_LIMIT

module _ (bytes : List ℕ) where
  -- at the start
  pub ahead_all : length bytes ≤ PLACE_LIMIT → Ahead bytes bytes []
  ahead_all short = record {
    at = 0;
    place = 0;
    taken = 0;
    adds = adds_none bytes 0 0 [] refl (between_start bytes);
    reached = reached_here bytes 0 (between_start bytes);
    left = refl;
    short = short;
  }

  module _ (rest : List ℕ) (place : ℕ) where
    -- what is left, by its places
    left_at : (k : ℕ) → drop place bytes ≡ rest → get_or bytes (place + k) 0 ≡ get_or rest k 0
    left_at k left = sym (get_or-drop place bytes k 0) ∙ ap (λ all. get_or all k 0) left

    first_left : drop place bytes ≡ rest → get_or bytes place 0 ≡ get_or rest 0 0
    first_left left = ap (λ k. get_or bytes k 0) (sym (add-zero place)) ∙ left_at 0 left

    left_size : drop place bytes ≡ rest → length bytes - place ≡ length rest
    left_size left = sym (length-drop place bytes) ∙ ap length left

  left_behind : (front rest : List ℕ) (place : ℕ) → drop place bytes ≡ front ++ rest →
      drop (place + length front) bytes ≡ rest
  left_behind front rest place left =
      sym (drop-drop (length front) place bytes) ∙ ap (drop (length front)) left ∙ drop-append_seam front rest

  -- over a blank
  pub ahead_blank : (rest numbers : List ℕ) (byte : ℕ) → is_blank byte ≡ true → Ahead bytes (byte ∷ rest) numbers →
      Ahead bytes rest numbers
  ahead_blank rest numbers byte blank h =
      let size = left_size (byte ∷ rest) h.place h.left in
      record {
        at = h.at;
        place = suc h.place;
        taken = h.taken;
        adds = h.adds;
        reached = reached_blank bytes h.at h.place (omega (arith, size)) (omega (arith, size, h.short))
            (ap is_blank (first_left (byte ∷ rest) h.place h.left) ∙ blank) h.reached;
        left = ap (λ k. drop k bytes) (sym (add-one h.place)) ∙ left_behind (byte ∷ []) rest h.place h.left;
        short = h.short;
      }

-- the digits of a number

ascii : (byte : ℕ) → IsInRange 48 57 byte → is_ascii_digit byte ≡ true
ascii byte within = grind arith

-- digits at a place of the bytes
record AreDigits (bytes digits : List ℕ) (place : ℕ) : Type 0 where
  pub same : (k : ℕ) → k < length digits → get_or bytes (place + k) 0 ≡ get_or digits k 0
  pub numeral : IsNumeral 10 digits
  pub small : digits_value 10 digits ≤ LARGEST
  pub short : place + length digits ≤ PLACE_LIMIT

module _ (bytes : List ℕ) where
  module _ (digits : List ℕ) (place : ℕ) where
    module _ (k : ℕ) (are : AreDigits bytes digits place) (within : k < length digits) where
      digit_here : is_ascii_digit (get_or bytes (place + k) 0) ≡ true
      digit_here =
          ap is_ascii_digit (are.same k within) ∙ ascii _ (digit_at digits k are.numeral.1 within)

      more_is : digits_value 10 (take (suc k) digits) ≡
          digits_value 10 (take k digits) * 10 + (get_or bytes (place + k) 0 - 48)
      more_is =
          let byte : IsInRange 48 57 (get_or digits k 0) = digit_at digits k are.numeral.1 within in
          ap (λ n. digits_value 10 (take n digits)) (sym (add-one k)) ∙ digits_value_more 10 digits k within
          ∙ ap (λ d. digits_value 10 (take k digits) * 10 + d)
          (omega (arith, are.same k within, digit_value_digit (get_or digits k 0) byte))

    run_to : (k : ℕ) → AreDigits bytes digits place → IsBetween bytes place → k ≤ length digits →
        InRun bytes place (place + k) (digits_value 10 (take k digits))
    run_to zero are between within =
        subst (λ k. InRun bytes place k 0) (sym (add-zero place))
        (run_begins bytes place between (ap (λ k. is_ascii_digit (get_or bytes k 0)) (sym (add-zero place))
        ∙ digit_here 0 are are.numeral.0))
    run_to (suc k) are between within =
        let inside : k < length digits = omega arith in
        let more = more_is k are inside in
        let next : suc (place + k) ≡ place + suc k = omega arith in
        subst (λ n. InRun bytes place n (digits_value 10 (take (suc k) digits))) next
        (subst (InRun bytes place (suc (place + k))) (sym more)
        (run_more bytes place (place + k) (digits_value 10 (take k digits)) (get_or bytes (place + k) 0 - 48)
        (omega (arith, are.short)) (digit_here k are inside) refl
        (omega (arith, more, are.small, digits_value-take-le 10 digits (suc k) (omega arith)))
        (run_to k are between (omega arith))))

  -- over a number
  pub ahead_number : (rest numbers : List ℕ) (n : ℕ) → n < 2 ^ 32 → is_ascii_digit (get_or rest 0 0) ≡ false →
      Ahead bytes (decimal n ++ rest) numbers → Ahead bytes rest (numbers ++ n ∷ [])
  ahead_number rest numbers n small other h =
      let told = decimal_is_IsNumeral n (omega arith) in
      let size = left_size bytes (decimal n ++ rest) h.place h.left in
      let end : ℕ = h.place + length (decimal n) in
      let left = left_behind bytes (decimal n) rest h.place h.left in
      let are : AreDigits bytes (decimal n) h.place = record {
        same = λ k within. left_at bytes (decimal n ++ rest) h.place k h.left
            ∙ get_or_append_left (decimal n) rest 0 k within;
        numeral = told.0;
        small = omega (arith, told.1);
        short = ends_within bytes (decimal n) rest h.place h.left told.0.0 h.short;
      } in
      let taken =
      run_ends bytes h.place end n (omega arith) (ap is_ascii_digit (first_left bytes rest end left) ∙ other)
      (subst (InRun bytes h.place end)
      (ap (digits_value 10) (take_all (length (decimal n)) (decimal n) (omega arith)) ∙ told.1)
      (run_to (decimal n) h.place (length (decimal n)) are h.reached.between (omega arith))) in
      record {
        at = end;
        place = end;
        taken = h.taken + 1;
        adds = adds_more bytes 0 h.at h.place end n h.taken [] numbers (numbers ++ n ∷ []) h.adds
            (next_of bytes h.at h.place end n h.reached taken) refl;
        reached = reached_here bytes end taken.between;
        left = left;
        short = h.short;
      }
    where
      ends_within : (all front behind : List ℕ) (place : ℕ) → drop place all ≡ front ++ behind → 0 < length front →
          length all ≤ PLACE_LIMIT → place + length front ≤ PLACE_LIMIT
      ends_within all front behind place same nonempty few =
          omega (arith, left_size all (front ++ behind) place same, length-append front behind)

  -- at the end the tokens are the numbers, and no fault was met
  pub ahead_none : (numbers : List ℕ) → Ahead bytes [] numbers → (first_fault bytes ≡ None)
      × (map value_of (tokens bytes) ≡ numbers)
  unfolding values_from
  ahead_none numbers h =
      let ended = ended_here bytes h.at h.place (omega (arith, left_size bytes [] h.place h.left)) h.reached in
      let all : h.taken ≡ length (tokens bytes) = omega (arith, before_none bytes, h.adds.given, ended.0) in (
        ended.1,
        sym (h.adds.values ∙ ap (λ k. map value_of (take h.taken (drop k (tokens bytes)))) (before_none bytes)
            ∙ ap (map value_of) (take_all h.taken (tokens bytes) (omega (arith, all)))),
      )
