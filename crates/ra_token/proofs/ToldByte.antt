-- What the byte at a place tells, if the bytes of the file are told.
use Rattle.std.proofs.Common.{inl, inr, ◌≡◌, ℕ, ◌<◌, ◌≤◌, Bool, true, false, List, length, get_or, slice_get, Option, Some, None, Ok, IfSome, sym, ap, ◌∙◌, arith}
use Rattle.std.specs.Char.{is_ascii_digit}
use Rattle.std.proofs.lemmas.Bool.{cases_lt, both_ways}
use Rattle.std.proofs.lemmas.List.{get_or_past}
use Rattle.std.proofs.lemmas.Option.{slice_get-get_or, slice_get_within, get_or_from_slice_get, none-some}
use Rattle.ra_token.specs.declared.answers.TheConstants.{PLACE_LIMIT}
use Rattle.ra_token.specs.declared.answers.TokenFault.TheVariants.{BadByte, TooLong}
use Rattle.ra_token.specs.Runs.{digit_at, is_blank}
use Rattle.ra_token.specs.Faults.{fault_at}
use Rattle.ra_token.specs.TokenList.{tokens_before, IsAnswer}
use Rattle.ra_token.specs.Scan.{IsReached, Begins, InRun, IsTaken, FaultsAt}
use Rattle.ra_token.proofs.FaultLaws.{fault_limit, fault_byte}
use Rattle.ra_token.proofs.Steps.{refused_here, ended_here, run_begins, run_long, run_ends}

-- a byte that was found, or none
pub byte_told : (told told_now : Option (List ℕ)) (found : Option ℕ) (at byte : ℕ) → told_now ≡ told →
    found ≡ Some byte → IfSome told_now (λ bytes. found ≡ slice_get bytes at) →
    IfSome told (λ bytes. slice_get bytes at ≡ Some byte)
byte_told told None found at byte same is read = rw (← same) tt
byte_told told (Some bytes) found at byte same is read =
    rw (← same) (sym read ∙ is)

pub end_told : (told told_now : Option (List ℕ)) (found : Option ℕ) (at : ℕ) → told_now ≡ told → found ≡ None →
    IfSome told_now (λ bytes. found ≡ slice_get bytes at) → IfSome told (λ bytes. slice_get bytes at ≡ None)
end_told told None found at same is read = rw (← same) tt
end_told told (Some bytes) found at same is read =
    rw (← same) (sym read ∙ is)

digit_of : (bytes : List ℕ) (at byte : ℕ) (is : Bool) → slice_get bytes at ≡ Some byte → is_ascii_digit byte ≡ is →
    digit_at bytes at ≡ is
digit_of bytes at byte is read digit = ap is_ascii_digit (get_or_from_slice_get bytes at byte 0 read) ∙ digit

past_end : (bytes : List ℕ) (at : ℕ) → slice_get bytes at ≡ None → length bytes ≤ at
past_end bytes at none = elim (cases_lt at (length bytes)) [
  | inl inside ↦ absurd (none-some (get_or bytes at 0) (sym none ∙ slice_get-get_or bytes at 0 inside))
  | inr past ↦ past
]

-- a byte at the place where a file is too long
pub told_limit : (told : Option (List ℕ)) (from at byte : ℕ) → at ≡ PLACE_LIMIT →
    IfSome told (λ bytes. slice_get bytes at ≡ Some byte) → IfSome told (λ bytes. IsReached bytes from at) →
    IfSome told (λ bytes. FaultsAt bytes from TooLong)
told_limit None from at byte at_limit read reached = tt
told_limit (Some bytes) from at byte at_limit read reached =
    refused_here bytes from at TooLong (slice_get_within bytes at byte read) reached (ap (fault_at bytes) at_limit
    ∙ fault_limit bytes)

-- a digit
pub told_begins : (told : Option (List ℕ)) (from at byte : ℕ) → is_ascii_digit byte ≡ true →
    IfSome told (λ bytes. slice_get bytes at ≡ Some byte) → IfSome told (λ bytes. IsReached bytes from at) →
    IfSome told (λ bytes. Begins bytes from at)
told_begins None from at byte digit read reached = tt
told_begins (Some bytes) from at byte digit read reached = record {
  reached = reached;
  digit = digit_of bytes at byte true read digit;
}

-- neither a digit nor a blank
pub told_bad : (told : Option (List ℕ)) (from at byte : ℕ) → at < PLACE_LIMIT → is_ascii_digit byte ≡ false →
    is_blank byte ≡ false → IfSome told (λ bytes. slice_get bytes at ≡ Some byte) →
    IfSome told (λ bytes. IsReached bytes from at) → IfSome told (λ bytes. FaultsAt bytes from (BadByte at byte))
told_bad None from at byte below other bad read reached = tt
told_bad (Some bytes) from at byte below other bad read reached =
    let is = get_or_from_slice_get bytes at byte 0 read in
    refused_here bytes from at (BadByte at byte) (slice_get_within bytes at byte read) reached
    (fault_byte bytes at below (digit_of bytes at byte false read other) (ap is_blank is ∙ bad)
    ∙ ap (λ x. Some (BadByte at x)) is)

-- the end
pub told_end : (told : Option (List ℕ)) (from at : ℕ) → IfSome told (λ bytes. slice_get bytes at ≡ None) →
    IfSome told (λ bytes. IsReached bytes from at) →
    IfSome told (λ bytes. IsAnswer bytes (tokens_before bytes from) (Ok None))
told_end None from at none reached = tt
told_end (Some bytes) from at none reached = ended_here bytes from at (past_end bytes at none) reached

-- the start of a run
pub told_run_begins : (told : Option (List ℕ)) (start : ℕ) → IfSome told (λ bytes. Begins bytes start start) →
    IfSome told (λ bytes. InRun bytes start start 0)
told_run_begins None start begins = tt
told_run_begins (Some bytes) start begins = run_begins bytes start begins.reached.between begins.digit

-- a run that goes on at the place where a file is too long
pub told_long : (told : Option (List ℕ)) (start at value byte : ℕ) → at ≡ PLACE_LIMIT → is_ascii_digit byte ≡ true →
    IfSome told (λ bytes. slice_get bytes at ≡ Some byte) → IfSome told (λ bytes. InRun bytes start at value) →
    IfSome told (λ bytes. FaultsAt bytes start TooLong)
told_long None start at value byte at_limit digit read run = tt
told_long (Some bytes) start at value byte at_limit digit read run =
    run_long bytes start at value at_limit (digit_of bytes at byte true read digit) run

taken_here : (bytes : List ℕ) (start at value : ℕ) → start ≤ at → Begins bytes start start → digit_at bytes at ≡ false →
    InRun bytes start at value → IsTaken bytes start at value
taken_here bytes start at value after begins other run = elim (cases_lt start at) [
  | inl later ↦ run_ends bytes start at value later other run
  | inr same ↦ let here : at ≡ start = omega arith in
      absurd (both_ways (digit_at bytes at) other (ap (digit_at bytes) here ∙ begins.digit))
]

-- a run that ends at a byte that is not a digit, or at the end
pub told_taken : (told : Option (List ℕ)) (start at value byte : ℕ) → start ≤ at → is_ascii_digit byte ≡ false →
    IfSome told (λ bytes. Begins bytes start start) → IfSome told (λ bytes. slice_get bytes at ≡ Some byte) →
    IfSome told (λ bytes. InRun bytes start at value) → IfSome told (λ bytes. IsTaken bytes start at value)
told_taken None start at value byte after other begins read run = tt
told_taken (Some bytes) start at value byte after other begins read run =
    taken_here bytes start at value after begins (digit_of bytes at byte false read other) run

pub told_taken_end : (told : Option (List ℕ)) (start at value : ℕ) → start ≤ at →
    IfSome told (λ bytes. Begins bytes start start) → IfSome told (λ bytes. slice_get bytes at ≡ None) →
    IfSome told (λ bytes. InRun bytes start at value) → IfSome told (λ bytes. IsTaken bytes start at value)
told_taken_end None start at value after begins none run = tt
told_taken_end (Some bytes) start at value after begins none run =
    taken_here bytes start at value after begins (ap is_ascii_digit (get_or_past bytes at 0 (past_end bytes at none)))
    run
