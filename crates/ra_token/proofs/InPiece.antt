-- From one byte to the next of a piece.
use Rattle.std.proofs.Common.{inl, inr, ◌≡◌, ℕ, zero, suc, ◌+◌, ◌*◌, ◌-◌, ◌^◌, ◌<◌, ◌≤◌, true, List, length, get_or, sym, ap, ◌∙◌, subst, add-one, arith}
use Rattle.std.proofs.lemmas.Bool.{cases_lt}
use Rattle.std.proofs.Math.Nat.{pow-suc, pow-le-pow_right}
use Rattle.std.specs.Char.{is_ascii_digit}
use Rattle.ra_token.specs.declared.answers.TheConstants.{LARGEST, PLACE_LIMIT}
use Rattle.ra_token.specs.declared.answers.TokenFault.TheVariants.{TooLarge}
use Rattle.ra_token.specs.declared.scan.TheConstants.{NEAR}
use Rattle.ra_token.specs.Runs.{digit_at, is_blank}
use Rattle.ra_token.specs.Reads.{IsPiece}
use Rattle.ra_token.specs.Scan.{IsReached, InRun, FaultsAt}
use Rattle.ra_token.proofs.Pieces.{piece_within, piece_at}
use Rattle.ra_token.proofs.Steps.{reached_blank, run_more, run_large}

module _ (bytes : List ℕ) where
  module _ (piece : List ℕ) (start : ℕ) where
    digit_in : (i : ℕ) → IsPiece bytes start piece → i < length piece → is_ascii_digit (get_or piece i 0) ≡ true →
        digit_at bytes (start + i) ≡ true
    digit_in i is inside digit = ap is_ascii_digit (piece_at bytes piece start i is inside) ∙ digit

    module _ (first i value : ℕ) (low : start + length piece ≤ PLACE_LIMIT) (is : IsPiece bytes start piece)
        (inside : i < length piece) (digit : is_ascii_digit (get_or piece i 0) ≡ true) where
      -- one more digit of a run
      pub piece_more : value * 10 + (get_or piece i 0 - 48) ≤ LARGEST → InRun bytes first (start + i) value →
          InRun bytes first (start + (i + 1)) (value * 10 + (get_or piece i 0 - 48))
      piece_more small run =
          let next : suc (start + i) ≡ start + (i + 1) = omega arith in
          subst (λ k. InRun bytes first k (value * 10 + (get_or piece i 0 - 48))) next
          (run_more bytes first (start + i) value (get_or piece i 0 - 48) (omega arith)
          (digit_in i is inside digit)
          (ap (λ byte. byte - 48) (sym (piece_at bytes piece start i is inside))) small run)

      -- one more digit, and the run is worth too much
      pub piece_large : LARGEST < value * 10 + (get_or piece i 0 - 48) → InRun bytes first (start + i) value →
          FaultsAt bytes first (TooLarge first)
      piece_large large run =
          run_large bytes first (start + i) value (get_or piece i 0 - 48) (omega arith)
          (digit_in i is inside digit)
          (ap (λ byte. byte - 48) (sym (piece_at bytes piece start i is inside))) large run

    -- over blanks, as many as there are
    pub piece_blanks : (from i n : ℕ) → start + length piece ≤ PLACE_LIMIT → IsPiece bytes start piece →
        i + n ≤ length piece → ((k : ℕ) → i ≤ k → k < i + n → is_blank (get_or piece k 0) ≡ true) →
        IsReached bytes from (start + i) → IsReached bytes from (start + (i + n))
    piece_blanks from i zero low is inside blanks reached =
        let same : start + i ≡ start + (i + 0) = omega arith in
        subst (IsReached bytes from) same reached
    piece_blanks from i (suc n) low is inside blanks reached =
        let next : suc (start + (i + n)) ≡ start + (i + suc n) = omega arith in
        let here : i + n < length piece = omega arith in
        subst (IsReached bytes from) next
        (reached_blank bytes from (start + (i + n)) (piece_within bytes piece start (i + n) is here) (omega arith)
        (ap is_blank (piece_at bytes piece start (i + n) is here) ∙ blanks (i + n) (omega arith) (omega arith))
        (piece_blanks from i n low is (omega arith)
        (λ k low_k below. blanks k low_k (omega arith)) reached))

-- the first digit that was looked at
pub digit_first : (piece : List ℕ) (from i : ℕ) → from ≤ i → (from < i → digit_at piece from ≡ true) →
    digit_at piece i ≡ true → from < i + 1 → digit_at piece from ≡ true
digit_first piece from i low before here within = elim (cases_lt from i) [
  | inl earlier ↦ before earlier
  | inr same ↦ let is : from ≡ i = omega arith in ap (digit_at piece) is ∙ here
]

-- a run with few digits is worth little
pub digit_below : (byte : ℕ) → is_ascii_digit byte ≡ true → byte - 48 ≤ 9
digit_below byte digit = grind arith

pub near_more : (value digit k : ℕ) → value < 10 ^ k → digit ≤ 9 → value * 10 + digit < 10 ^ (k + 1)
near_more value digit k below small = rw (add-one k) (omega (arith, pow-suc 10 k))

pub near_small : (value k : ℕ) → value < 10 ^ k → k ≤ NEAR → value ≤ LARGEST
near_small value k below few =
    let most : 10 ^ k ≤ 100000000 = pow-le-pow_right (omega arith) few in
    omega arith

-- one blank alone
pub one_blank : (piece : List ℕ) (from : ℕ) → is_blank (get_or piece from 0) ≡ true → (k : ℕ) → from ≤ k →
    k < from + 1 → is_blank (get_or piece k 0) ≡ true
one_blank piece from blank k low below =
    let same : k ≡ from = omega arith in
    ap (λ j. is_blank (get_or piece j 0)) same ∙ blank
