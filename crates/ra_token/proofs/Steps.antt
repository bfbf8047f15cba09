-- From one byte to the next.
use Rattle.std.proofs.Common.{◌≡◌, ℕ, zero, suc, ◌+◌, ◌*◌, ◌-◌, ◌<◌, ◌≤◌, true, false, List, [], length, take, drop, get_or, slice_get, Option, Some, None, Ok, sym, refl, ap, ◌∙◌, subst, inr, add-one, arith}
use Rattle.ra_base.specs.Searches.{first}
use Rattle.ra_base.proofs.Searches.{first_none, first_more_none}
use Rattle.ra_token.specs.declared.answers.TheConstants.{LARGEST, PLACE_LIMIT}
use Rattle.ra_token.specs.declared.answers.TokenFault.{TokenFault}
use Rattle.ra_token.specs.declared.answers.TokenFault.TheVariants.{TooLarge, TooLong}
use Rattle.ra_token.specs.Runs.{digit_at, is_blank, worth, cuts_run}
use Rattle.ra_token.specs.Faults.{fault_at}
use Rattle.ra_token.specs.TokenList.{tokens, tokens_before, IsAnswer}
use Rattle.ra_token.specs.Standing.{Standing}
use Rattle.ra_token.specs.Reads.{IsBetween, Reads}
use Rattle.ra_token.specs.Scan.{IsReached, InRun, IsTaken, IsNext, FaultsAt}
use Rattle.ra_token.proofs.RunLaws.{worth_digit, start_digit, digit_within, blank_is_no_digit, cuts_before, cuts_after, other_before, ends_here, goes_on_here, no_end_here, worth_begins, start_begins, digit_before}
use Rattle.ra_token.proofs.FaultLaws.{fault_limit, fault_small, fault_large, fault_blank, first_fault_at, no_first_fault, fault_place_at, no_fault_place, fault_place_low}
use Rattle.ra_token.proofs.TokenLaws.{before_yes, before_no, before_all, token_number, token_is}

module _ (bytes : List ℕ) where
  -- the start of the bytes
  pub between_start : IsBetween bytes 0
  unfolding cuts_run
  between_start = record { within = omega arith; whole = refl; sound = first_none (fault_at bytes) }

  -- at the place itself nothing was passed
  pub reached_here : (place : ℕ) → IsBetween bytes place → IsReached bytes place place
  reached_here place between = record { between = between; given = refl }

  module _ (from k : ℕ) where
    -- over a blank
    pub reached_blank : k < length bytes → k < PLACE_LIMIT → is_blank (get_or bytes k 0) ≡ true →
        IsReached bytes from k → IsReached bytes from (suc k)
    reached_blank within below blank reached =
        let other = blank_is_no_digit (get_or bytes k 0) blank in
        record {
          between = record {
            within = omega arith;
            whole = cuts_after bytes k other;
            sound = ap (λ n. first n (fault_at bytes)) (sym (add-one k))
                ∙ first_more_none k (fault_at bytes) reached.between.sound (fault_blank bytes k below other blank);
          };
          given = before_no bytes k (no_end_here bytes k other) ∙ reached.given;
        }

    module _ (fault : TokenFault) (within : k < length bytes) where
      -- a fault if all before it was given
      pub all_before_fault : first k (fault_at bytes) ≡ None → fault_at bytes k ≡ Some fault →
          tokens_before bytes k ≡ tokens_before bytes from → FaultsAt bytes from fault
      all_before_fault sound here given =
          inr (
            sym given ∙ ap (tokens_before bytes) (sym (fault_place_at bytes k fault within sound here))
                ∙ before_all bytes,
            first_fault_at bytes k fault within sound here,
          )

      pub refused_here : IsReached bytes from k → fault_at bytes k ≡ Some fault → FaultsAt bytes from fault
      refused_here reached here =
          all_before_fault reached.between.sound here reached.given

    -- the end of the bytes
    pub ended_here : length bytes ≤ k → IsReached bytes from k → IsAnswer bytes (tokens_before bytes from) (Ok None)
    ended_here past reached =
        let at_end : k ≡ length bytes = omega (arith, reached.between.within) in
        let sound = ap (λ n. first n (fault_at bytes)) (sym at_end) ∙ reached.between.sound in (
          sym reached.given ∙ ap (tokens_before bytes) (at_end ∙ sym (no_fault_place bytes sound)) ∙ before_all bytes,
          no_first_fault bytes sound,
        )

  -- the first digit of a run
  given_begins : (k : ℕ) → cuts_run bytes k ≡ false → digit_at bytes k ≡ true →
      tokens_before bytes (k - 1) ≡ tokens_before bytes k
  given_begins zero whole digit = refl
  given_begins (suc k) whole digit =
      let before : suc k - 1 ≡ k = omega arith in
      ap (tokens_before bytes) before ∙ sym (before_no bytes k (no_end_here bytes k (other_before bytes k whole digit)))

  pub run_begins : (k : ℕ) → IsBetween bytes k → digit_at bytes k ≡ true → InRun bytes k k 0
  run_begins k between digit = record {
    within = between.within;
    worth_is = worth_begins bytes k between.whole digit;
    start_is = start_begins bytes k between.whole digit;
    sound = between.sound;
    given = given_begins k between.whole digit;
  }

  module _ (start : ℕ) where
    -- one more digit
    given_more : (k : ℕ) → digit_at bytes k ≡ true → tokens_before bytes (k - 1) ≡ tokens_before bytes start →
        tokens_before bytes k ≡ tokens_before bytes start
    given_more zero digit given = given
    given_more (suc k) digit given =
        let before : suc k - 1 ≡ k = omega arith in
        before_no bytes k (goes_on_here bytes k digit) ∙ ap (tokens_before bytes) (sym before) ∙ given

    module _ (k value digit_value : ℕ) (below : k < PLACE_LIMIT) (digit : digit_at bytes k ≡ true)
        (is : digit_value ≡ get_or bytes k 0 - 48) where
      pub run_more : value * 10 + digit_value ≤ LARGEST → InRun bytes start k value →
          InRun bytes start (suc k) (value * 10 + digit_value)
      run_more small run =
          let worth_is : worth bytes (suc k) ≡ value * 10 + digit_value =
          omega (arith, worth_digit bytes k digit, run.worth_is) in
          let back : suc k - 1 ≡ k = omega arith in
          record {
            within = omega (arith, digit_within bytes k digit);
            worth_is = worth_is;
            start_is = start_digit bytes k digit ∙ run.start_is;
            sound = ap (λ n. first n (fault_at bytes)) (sym (add-one k))
                ∙ first_more_none k (fault_at bytes) run.sound (fault_small bytes k below digit (omega arith));
            given = ap (tokens_before bytes) back ∙ given_more k digit run.given;
          }

      -- a digit with which the run is worth too much
      pub run_large : LARGEST < value * 10 + digit_value → InRun bytes start k value →
          FaultsAt bytes start (TooLarge start)
      run_large large run =
          let worth_is : worth bytes (suc k) ≡ value * 10 + digit_value =
          omega (arith, worth_digit bytes k digit, run.worth_is) in
          all_before_fault start k (TooLarge start) (digit_within bytes k digit) run.sound
          (fault_large bytes k below digit (omega arith) ∙ ap (λ at. Some (TooLarge at)) run.start_is)
          (given_more k digit run.given)

    -- a run that goes on at the place where a file is too long
    pub run_long : (k value : ℕ) → k ≡ PLACE_LIMIT → digit_at bytes k ≡ true → InRun bytes start k value →
        FaultsAt bytes start TooLong
    run_long k value at_limit digit run =
        all_before_fault start k TooLong (digit_within bytes k digit) run.sound
        (ap (fault_at bytes) at_limit ∙ fault_limit bytes)
        (given_more k digit run.given)

    -- a run that ends
    pub run_ends : (k value : ℕ) → start < k → digit_at bytes k ≡ false → InRun bytes start k value →
        IsTaken bytes start k value
    run_ends zero value after other run = absurd (omega arith)
    run_ends (suc k) value after other run =
        let digit = digit_before bytes start k run.start_is after in
        let ends = ends_here bytes k digit other in
        let back : suc k - 1 ≡ k = omega arith in
        let given : tokens_before bytes k ≡ tokens_before bytes start = ap (tokens_before bytes) (sym back)
        ∙ run.given in
        record {
          token = ap (slice_get (tokens bytes)) (sym given)
              ∙ token_number bytes k ends (omega (arith, fault_place_low bytes (suc k) run.within run.sound))
              ∙ ap (λ t. Some t)
              (token_is bytes start k value run.worth_is (sym (start_digit bytes k digit) ∙ run.start_is));
          between = record { within = run.within; whole = cuts_before bytes (suc k) other; sound = run.sound };
          given = before_yes bytes k ends ∙ ap (λ n. n + 1) given;
        }

-- a reader at the start, with nothing ready
pub reads_start : (told : Option (List ℕ)) (reader : Standing) → reader.place ≡ 0 → reader.ready ≡ [] →
    Reads told reader
reads_start None reader at_start nothing = tt
reads_start (Some bytes) reader at_start nothing = record {
  piece = record {
    same = ap (λ (piece : List ℕ). take (length piece) (drop reader.start bytes)) nothing ∙ sym nothing;
  };
  between = subst (IsBetween bytes) (sym at_start) (between_start bytes);
}

-- a token after blanks
pub next_of : (bytes : List ℕ) (from start place value : ℕ) → IsReached bytes from start →
    IsTaken bytes start place value → IsNext bytes from start place value
next_of bytes from start place value reached taken = record {
  token = ap (slice_get (tokens bytes)) (sym reached.given) ∙ taken.token;
  between = taken.between;
  given = taken.given ∙ ap (λ n. n + 1) reached.given;
}
