-- Runs of a piece, one after another.
use Rattle.std.proofs.Common.{◌≡◌, ◌≢◌, ℕ, ◌+◌, ◌-◌, ◌<◌, ◌≤◌, true, false, List, [], ◌∷◌, ◌++◌, cond, length, get_or, refl, ap, ◌∙◌, subst, inl, inr, arith, length-append}
use Rattle.std.proofs.lemmas.Bool.{cases_lt}
use Rattle.std.specs.Int.{bit_at}
use Rattle.ra_base.specs.Listed.{Listed}
use Rattle.ra_token.specs.Runs.{digit_at, is_blank}
use Rattle.ra_token.specs.Reads.{IsBetween, IsPiece}
use Rattle.ra_token.specs.Scan.{InRun, IsNext, TakesRuns, digits_worth}
use Rattle.ra_token.specs.Values.{AddsValues}
use Rattle.ra_token.proofs.ValueLaws.{adds_none, adds_more, adds_then}
use Rattle.ra_token.proofs.Told.{next_in}
use Rattle.ra_token.proofs.InPiece.{one_blank, near_small}
use Rattle.ra_token.proofs.Eight.{digits_small, digits_run}
use Rattle.ra_token.proofs.BlockBits.{set_is_other, clear_is_digit}

-- of the 64 bytes after an index, those up to another were passed, and the bits that are left tell which of the others
-- are no digits
pub record InBlock (piece : List ℕ) (from at rest : ℕ) : Type 0 where
  pub low : from ≤ at
  pub high : at ≤ from + 64
  pub passed : (j : ℕ) → j < 64 → from + 1 + j ≤ at → bit_at rest j ≡ 0
  pub left : (j : ℕ) → j < 64 → at < from + 1 + j → bit_at rest j ≡ cond (digit_at piece (from + 1 + j)) 0 1

pub block_after : (piece : List ℕ) (from at rest bit : ℕ) → InBlock piece from at rest → bit < 64 →
    bit_at rest bit ≡ 1 → at < from + 1 + bit
block_after piece from at rest bit block below set = elim (cases_lt at (from + 1 + bit)) [
  | inl after ↦ after
  | inr before ↦ absurd (omega (arith, block.passed bit below before, set))
]

-- the run between two bytes that are no digits, the first of them a blank
pub block_next : (piece : List ℕ) (at end count : ℕ) → at + 1 + count ≡ end → 0 < count → count ≤ 8 →
    end < length piece → is_blank (get_or piece at 0) ≡ true → digit_at piece end ≡ false →
    ((k : ℕ) → k < count → digit_at piece (at + 1 + k) ≡ true)
    → (bytes : List ℕ) (start : ℕ) → start + length piece ≤ 536870912 → IsPiece bytes start piece →
    IsBetween bytes (start + at) → IsNext bytes (start + at) (start + (at + 1)) (start + end)
    (digits_worth piece (at + 1) count)
block_next piece at end count ends some few within blank other digits bytes start low is between =
    let first : at + 1 + 0 ≡ at + 1 = omega arith in
    next_in bytes piece start at (at + 1) end (digits_worth piece (at + 1) count) is low (omega arith) (omega arith)
    within
    (one_blank piece at blank) (subst (λ k. digit_at piece k ≡ true) first (digits 0 some)) other
    (λ all place run_start fits shows so_far small.
    subst (λ k. InRun all run_start (place + k) (digits_worth piece (at + 1) count)) ends
    (digits_run all piece place run_start (at + 1) count fits shows (omega arith) few digits so_far))
    (near_small _ count (digits_small piece (at + 1) count digits) few) between

module _ (piece : List ℕ) (from : ℕ) where
  pub takes_none : (limit : ℕ) (old : Listed ℕ) → from ≤ length piece → TakesRuns piece from from limit old old
  takes_none limit old within = record {
    low = omega arith;
    within = within;
    grows = omega arith;
    most = omega arith;
    room = refl;
    adds = λ bytes start low is between. adds_none bytes (start + from) _ old.items (omega arith) between;
  }

  -- one run more
  pub takes_one : (first end value : ℕ) (old new : Listed ℕ) → from ≤ end → end ≤ length piece →
      new.items ≡ old.items ++ value ∷ [] → new.room ≡ old.room →
      ((bytes : List ℕ) (start : ℕ) → start + length piece ≤ 536870912 → IsPiece bytes start piece →
      IsBetween bytes (start + from) → IsNext bytes (start + from) (start + first) (start + end) value) →
      TakesRuns piece from end 1 old new
  takes_one first end value old new low within pushed room next =
      let number : length new.items ≡ length old.items + 1 = ap length pushed ∙ length-append old.items (value ∷ []) in
      let one : 1 ≡ length new.items - length old.items = omega arith in
      record {
        low = low;
        within = within;
        grows = omega arith;
        most = omega arith;
        room = room;
        adds = λ bytes start fits is between.
            subst (λ n. AddsValues bytes (start + from) (start + end) n old.items new.items) one
            (adds_more bytes (start + from) (start + from) (start + first) (start + end) value 0 old.items old.items
            new.items (adds_none bytes (start + from) 0 old.items refl between) (next bytes start fits is between)
            pushed);
      }

  -- some and then some more
  pub takes_then : (at end limit m n : ℕ) (old now new : Listed ℕ) → TakesRuns piece from at m old now →
      TakesRuns piece at end n now new → length new.items ≤ length old.items + limit →
      TakesRuns piece from end limit old new
  takes_then at end limit m n old now new one two most = record {
    low = omega (arith, one.low, two.low);
    within = two.within;
    grows = omega (arith, one.grows, two.grows);
    most = most;
    room = two.room ∙ one.room;
    adds = λ bytes start low is between.
        let so_far = one.adds bytes start low is between in
        adds_then bytes (start + from) (start + at) (start + end) (length now.items - length old.items)
        (length new.items - length now.items) (length new.items - length old.items) old.items now.items new.items
        (omega (arith, one.grows, two.grows)) so_far (two.adds bytes start low is so_far.between);
  }

  pub block_begins : (rest : ℕ) → ((k : ℕ) → k < 64 → bit_at rest k ≡ cond (digit_at piece (from + 1 + k)) 0 1) →
      InBlock piece from from rest
  block_begins rest tells = record {
    low = omega arith;
    high = omega arith;
    passed = λ j below before. absurd (omega arith);
    left = λ j below after. tells j below;
  }

  module _ (at rest : ℕ) where
    module _ (bit : ℕ) (block : InBlock piece from at rest) (below : bit < 64) where
      pub block_other : bit_at rest bit ≡ 1 → digit_at piece (from + 1 + bit) ≡ false
      block_other set =
          set_is_other piece _ _ (block.left bit below (block_after piece from at rest bit block below set)) set

      pub block_digits : ((k : ℕ) → k < bit → bit_at rest k ≡ 0) → (k : ℕ) → k < from + bit - at →
          digit_at piece (at + 1 + k) ≡ true
      block_digits clear k within =
          let j = at - from + k in
          let same : from + 1 + (at - from + k) ≡ at + 1 + k = omega (arith, block.low) in
          let low_j : at - from + k < bit = omega (arith, block.low) in
          subst (λ i. digit_at piece i ≡ true) same
          (clear_is_digit piece _ _ (block.left (at - from + k) (omega arith) (omega (arith, block.low)))
          (clear (at - from + k) low_j))

    pub block_goes : (bit after : ℕ) → InBlock piece from at rest → bit < 64 → at < from + 1 + bit →
        ((k : ℕ) → k < bit → bit_at rest k ≡ 0) → bit_at after bit ≡ 0 →
        ((k : ℕ) → k < 64 → k ≢ bit → bit_at after k ≡ bit_at rest k) → InBlock piece from (from + 1 + bit) after
    block_goes bit after block below moved clear gone kept = record {
      low = omega arith;
      high = omega arith;
      passed = λ j small before.
          elim (cases_lt j bit) [
            | inl earlier ↦ kept j small (λ same. absurd (omega arith)) ∙ clear j earlier
            | inr here ↦ (subst (λ k. bit_at after k ≡ 0) (omega arith) gone)
          ];
      left = λ j small behind. kept j small (λ same. absurd (omega arith)) ∙ block.left j small (omega arith);
    }

  -- a wider limit
  pub takes_more : (end m n : ℕ) (old new : Listed ℕ) → m ≤ n → TakesRuns piece from end m old new →
      TakesRuns piece from end n old new
  takes_more end m n old new wider takes = record {
    low = takes.low;
    within = takes.within;
    grows = takes.grows;
    most = omega (arith, takes.most);
    room = takes.room;
    adds = takes.adds;
  }
