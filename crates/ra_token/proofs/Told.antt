-- What the bytes that are ready show, if the bytes of the file are told.
use Rattle.std.proofs.Common.{◌≡◌, ℕ, ◌+◌, ◌-◌, ◌<◌, ◌≤◌, true, false, List, length, take, get_or, slice_get, Option, Some, None, IfSome, sym, ap, ◌∙◌, subst, arith, length-take, get_or-take}
use Rattle.std.specs.Char.{is_ascii_digit}
use Rattle.std.proofs.lemmas.List.{get_or_read}
use Rattle.std.proofs.lemmas.Option.{slice_get-get_or}
use Rattle.ra_token.specs.declared.answers.TheConstants.{LARGEST, PLACE_LIMIT}
use Rattle.ra_token.specs.Runs.{is_blank}
use Rattle.ra_token.specs.Reads.{IsPiece, IsBetween}
use Rattle.ra_token.specs.Scan.{IsReached, InRun, IsNext}
use Rattle.ra_token.proofs.Pieces.{piece_within, piece_at}
use Rattle.ra_token.proofs.Steps.{reached_here, run_begins, run_ends, next_of}
use Rattle.ra_token.proofs.InPiece.{piece_blanks}

-- a list that equals the one that is ready
pub shown_as : (told : Option (List ℕ)) (start filled : ℕ) (items slice : List ℕ) → slice ≡ items →
    IfSome told (λ bytes. IsPiece bytes start (take filled items)) →
    IfSome told (λ bytes. IsPiece bytes start (take filled slice))
shown_as told start filled items slice same shows =
    subst (λ xs. IfSome told (λ bytes. IsPiece bytes start (take filled xs))) (sym same) shows

-- blanks that are ready are passed
pub told_reached : (told : Option (List ℕ)) (piece : List ℕ) (start place j : ℕ) →
    IfSome told (λ bytes. IsPiece bytes start piece) → start + length piece ≤ PLACE_LIMIT → start ≤ place →
    place - start ≤ j → j ≤ length piece → ((k : ℕ) → place - start ≤ k → k < j → is_blank (get_or piece k 0) ≡ true) →
    IfSome told (λ bytes. IsBetween bytes place → IsReached bytes place (start + j))
told_reached None piece start place j shows low after from within blanks = tt
told_reached (Some bytes) piece start place j shows low after from within blanks = λ between.
    let here : place ≡ start + (place - start) = omega arith in
    let there : place - start + (j - (place - start)) ≡ j = omega arith in
    subst (λ n. IsReached bytes place (start + n)) there
    (piece_blanks bytes piece start place (place - start) (j - (place - start)) low shows (omega arith)
    (λ k low_k below. blanks k low_k (omega arith))
    (subst (IsReached bytes place) here (reached_here bytes place between)))

-- a run goes on over what is ready
pub told_run : (told : Option (List ℕ)) (piece : List ℕ) (start place carried end value : ℕ) →
    IfSome told (λ bytes. IsPiece bytes start piece) → start + length piece ≤ PLACE_LIMIT → start ≤ place
    → ((all : List ℕ) (at first : ℕ) → at + length piece ≤ PLACE_LIMIT → IsPiece all at piece →
    InRun all first (at + (place - start)) carried → value ≤ LARGEST → InRun all first (at + end) value)
    → IfSome told (λ bytes. (first : ℕ) → InRun bytes first place carried → value ≤ LARGEST →
    InRun bytes first (start + end) value)
told_run None piece start place carried end value shows low after goes_on = tt
told_run (Some bytes) piece start place carried end value shows low after goes_on = λ first run small.
    goes_on bytes start first low shows (subst (λ k. InRun bytes first k carried) (omega arith) run) small

-- a byte that is ready is the byte of the file
pub told_byte : (told : Option (List ℕ)) (items : List ℕ) (start filled at byte : ℕ) →
    IfSome told (λ bytes. IsPiece bytes start (take filled items)) → start ≤ at → at < start + filled →
    filled ≤ length items → byte ≡ get_or items (at - start) byte →
    IfSome told (λ bytes. Some byte ≡ slice_get bytes at)
told_byte None items start filled at byte shows after before within read = tt
told_byte (Some bytes) items start filled at byte shows after before within read =
    let inside : at - start < length (take filled items) = omega (arith, length-take filled items) in
    let here : start + (at - start) ≡ at = omega arith in
    sym (slice_get-get_or bytes at 0
    (omega (arith, piece_within bytes (take filled items) start (at - start) shows inside))
    ∙ ap (λ (x : ℕ). Some x) (ap (λ k. get_or bytes k 0) (sym here)
    ∙ piece_at bytes (take filled items) start (at - start) shows inside
    ∙ get_or-take filled items (at - start) 0 (omega arith)
    ∙ sym (get_or_read items (at - start) byte (omega arith) read 0)))

module _ (bytes piece : List ℕ) (start : ℕ) where
  -- a run with blanks before it and another byte after it, all of them ready
  next_here : (place i j value : ℕ) → IsPiece bytes start piece → i < j → j < length piece →
      is_ascii_digit (get_or piece i 0) ≡ true → is_ascii_digit (get_or piece j 0) ≡ false →
      (InRun bytes (start + i) (start + i) 0 → InRun bytes (start + i) (start + j) value) →
      IsReached bytes place (start + i) → IsNext bytes place (start + i) (start + j) value
  next_here place i j value shows some within digit other goes_on reached =
      next_of bytes place (start + i) (start + j) value reached
      (run_ends bytes (start + i) (start + j) value (omega arith)
      (ap is_ascii_digit (piece_at bytes piece start j shows within) ∙ other)
      (goes_on (run_begins bytes (start + i) reached.between
      (ap is_ascii_digit (piece_at bytes piece start i shows (omega arith)) ∙ digit))))

  pub next_in : (from i j value : ℕ) → IsPiece bytes start piece → start + length piece ≤ PLACE_LIMIT → from ≤ i →
      i < j → j < length piece → ((k : ℕ) → from ≤ k → k < i → is_blank (get_or piece k 0) ≡ true) →
      is_ascii_digit (get_or piece i 0) ≡ true → is_ascii_digit (get_or piece j 0) ≡ false →
      ((all : List ℕ) (at first : ℕ) → at + length piece ≤ PLACE_LIMIT → IsPiece all at piece →
      InRun all first (at + i) 0 → value ≤
      LARGEST → InRun all first (at + j) value) → value ≤ LARGEST → IsBetween bytes (start + from) →
      IsNext bytes (start + from) (start + i) (start + j) value
  next_in from i j value shows low after some within blanks digit other goes_on small between =
      let there : from + (i - from) ≡ i = omega arith in
      next_here (start + from) i j value shows some within digit other
      (λ run. goes_on bytes start (start + i) low shows run small)
      (subst (λ n. IsReached bytes (start + from) (start + n)) there
      (piece_blanks bytes piece start (start + from) from (i - from) low shows (omega arith)
      (λ k low_k below. blanks k low_k (omega arith))
      (reached_here bytes (start + from) between)))

-- what holds of whatever bytes have this piece, from a place in the piece on
pub told_in : (P : List ℕ → ℕ → ℕ → Type 0) (told : Option (List ℕ)) (piece : List ℕ) (start place : ℕ) →
    IfSome told (λ bytes. IsPiece bytes start piece) → start + length piece ≤ PLACE_LIMIT → start ≤ place
    → ((all : List ℕ) (at : ℕ) → at + length piece ≤ PLACE_LIMIT → IsPiece all at piece →
    IsBetween all (at + (place - start)) → P all at (at + (place - start)))
    → IfSome told (λ bytes. IsBetween bytes place → P bytes start place)
told_in P None piece start place shows low after holds = tt
told_in P (Some bytes) piece start place shows low after holds = λ between.
    let here : place ≡ start + (place - start) = omega arith in
    subst (P bytes start) (sym here) (holds bytes start low shows (subst (IsBetween bytes) here between))

-- what holds if nothing was passed
pub told_still : (P : List ℕ → Type 0) (told : Option (List ℕ)) (place : ℕ) →
    ((bytes : List ℕ) → IsBetween bytes place → P bytes) → IfSome told (λ bytes. IsBetween bytes place → P bytes)
told_still P None place holds = tt
told_still P (Some bytes) place holds = holds bytes
