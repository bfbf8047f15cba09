-- Runs of digits, one byte on.
use Rattle.std.proofs.Common.{inl, inr, ◌≡◌, ℕ, zero, suc, ◌+◌, ◌*◌, ◌-◌, ◌<◌, true, false, not, ◌&&◌, List, length, get_or, refl, ap, arith}
use Rattle.std.proofs.lemmas.Bool.{cond-true, cond-false, cases_lt, cases_Bool, both_ways, or_cases, eqb-true, and_from, and_left, and_right, not_from_false, not_from_true}
use Rattle.std.proofs.lemmas.List.{get_or_past}
use Rattle.std.specs.Char.{is_ascii_digit}
use Rattle.ra_token.specs.Runs.{digit_at, is_blank, worth, run_start, ends_at, cuts_run}

-- past the end there is no digit
pub digit_within : (bytes : List ℕ) (k : ℕ) → digit_at bytes k ≡ true → k < length bytes
digit_within bytes k digit = elim (cases_lt k (length bytes)) [
  | inl inside ↦ inside
  | inr past ↦ absurd (both_ways (digit_at bytes k) (ap is_ascii_digit (get_or_past bytes k 0 past)) digit)
]

-- a blank is not a digit
pub blank_is_no_digit : (byte : ℕ) → is_blank byte ≡ true → is_ascii_digit byte ≡ false
blank_is_no_digit byte blank = grind (arith, or_cases, eqb-true)

-- before the first digit of a run there is none
pub other_before : (bytes : List ℕ) (k : ℕ) → cuts_run bytes (suc k) ≡ false → digit_at bytes (suc k) ≡ true →
    digit_at bytes k ≡ false
unfolding cuts_run
other_before bytes k whole digit = elim (cases_Bool (digit_at bytes k)) [
  | inl before ↦ absurd (both_ways (digit_at bytes k && digit_at bytes (suc k)) whole
      (and_from (digit_at bytes k) (digit_at bytes (suc k)) before digit))
  | inr other ↦ other
]

module _ (bytes : List ℕ) where
  pub worth_none : worth bytes 0 ≡ 0
  unfolding worth
  worth_none = refl

  pub start_none : run_start bytes 0 ≡ 0
  unfolding run_start
  start_none = refl

  module _ (k : ℕ) (digit : digit_at bytes k ≡ true) where
    pub worth_digit : worth bytes (suc k) ≡ worth bytes k * 10 + (get_or bytes k 0 - 48)
    unfolding worth
    worth_digit = cond-true (digit_at bytes k) _ _ digit

    pub start_digit : run_start bytes (suc k) ≡ run_start bytes k
    unfolding run_start
    start_digit = cond-true (digit_at bytes k) _ _ digit

  -- a place beside a byte that is not a digit cuts no run
  pub cuts_before : (k : ℕ) → digit_at bytes k ≡ false → cuts_run bytes k ≡ false
  unfolding cuts_run
  cuts_before zero other = refl
  cuts_before (suc k) other = and_right (digit_at bytes k) (digit_at bytes (suc k)) other

  module _ (k : ℕ) where
    -- where a run ends
    pub ends_here : digit_at bytes k ≡ true → digit_at bytes (suc k) ≡ false → ends_at bytes k ≡ true
    ends_here digit other =
        and_from (digit_at bytes k) (not (digit_at bytes (suc k))) digit (not_from_false (digit_at bytes (suc k)) other)

    pub goes_on_here : digit_at bytes (suc k) ≡ true → ends_at bytes k ≡ false
    goes_on_here digit =
        and_right (digit_at bytes k) (not (digit_at bytes (suc k))) (not_from_true (digit_at bytes (suc k)) digit)

    module _ (other : digit_at bytes k ≡ false) where
      pub worth_other : worth bytes (suc k) ≡ 0
      unfolding worth
      worth_other = cond-false (digit_at bytes k) _ _ other

      pub start_other : run_start bytes (suc k) ≡ suc k
      unfolding run_start
      start_other = cond-false (digit_at bytes k) _ _ other

      pub cuts_after : cuts_run bytes (suc k) ≡ false
      unfolding cuts_run
      cuts_after = and_left (digit_at bytes k) (digit_at bytes (suc k)) other

      pub no_end_here : ends_at bytes k ≡ false
      no_end_here = and_left (digit_at bytes k) (not (digit_at bytes (suc k))) other

  -- what begins a run
  pub worth_begins : (k : ℕ) → cuts_run bytes k ≡ false → digit_at bytes k ≡ true → worth bytes k ≡ 0
  worth_begins zero whole digit = worth_none
  worth_begins (suc k) whole digit = worth_other k (other_before bytes k whole digit)

  pub start_begins : (k : ℕ) → cuts_run bytes k ≡ false → digit_at bytes k ≡ true → run_start bytes k ≡ k
  start_begins zero whole digit = start_none
  start_begins (suc k) whole digit = start_other k (other_before bytes k whole digit)

-- if the run did not begin here, the byte before is a digit
pub digit_before : (bytes : List ℕ) (start k : ℕ) → run_start bytes (suc k) ≡ start → start < suc k →
    digit_at bytes k ≡ true
digit_before bytes start k is before = elim (cases_Bool (digit_at bytes k)) [
  | inl digit ↦ digit
  | inr other ↦ absurd (omega (arith, start_other bytes k other))
]
