-- A machine's row of use, step by step.
use Rattle.std.proofs.Common.{◌≡◌, ℕ, ◌+◌, ◌<◌, List, length, get_or, refl, arith}
use Rattle.ra_base.specs.Tables.{cell}
use Rattle.ra_base.specs.declared.ids.Machine.{Machine}
use Rattle.ra_model.specs.declared.raw.Tables.{Tables}
use Rattle.ra_model.specs.Numbers.{resource_count, requirement_of}
use Rattle.ra_model.specs.Limits.{WellFormed, Small}
use Rattle.ra_model.specs.Usage.{use_share, use_of}
use Rattle.ra_model.proofs.BoundLemmas.{use_under}
use Rattle.ra_rows.specs.Rows.{IsUsageRow}
use Rattle.ra_moves.specs.declared.steps.Step.{Step}
use Rattle.ra_moves.specs.Steps.{step_at, process_in, from_in, to_in}
use Rattle.ra_moves.specs.Replacing.{after_steps}
use Rattle.ra_moves.specs.Moving.{IsMove}
use Rattle.ra_world.specs.Required.{AreRequiredRows}
use Rattle.ra_weigh.specs.RowChanges.{share_at, RowHasFollowed, CanFollow}
use Rattle.ra_weigh.proofs.MoveLemmas.{from_read, to_read, tally_next}

-- the row has what step j's process requires
pub record IsRequiredRow (i : Tables) (steps : List Step) (j : ℕ) (amounts : List ℕ) : Type 0 where
  pub each : (r : ℕ) → r < resource_count i → get_or amounts r 0 ≡ requirement_of i (process_in steps j) r

module _ (i : Tables) where
  pub required_from : {steps : List Step} {n : ℕ} (j width : ℕ) {table : List ℕ} (amounts : List ℕ) →
      AreRequiredRows i steps n table → j < n → width ≡ resource_count i →
      ((r : ℕ) → r < width → get_or amounts r 0 ≡ cell 20 table j r) → IsRequiredRow i steps j amounts
  required_from j width amounts are within is read = grind arith

  -- a share of it is what the process uses
  pub share_is : (m r p at amount : ℕ) → amount ≡ requirement_of i p r → share_at at m amount ≡ use_share i m r p at
  unfolding share_at use_share
  share_is m r p at amount is = rw is refl

  module _ {steps : List Step} {j : ℕ} (m r : ℕ) {s : Step} {amounts : List ℕ} (is : s ≡ step_at steps j)
      (required : IsRequiredRow i steps j amounts) (inside : r < resource_count i) where
    -- the shares of a step in the row
    left_is : share_at s.from.0 m (get_or amounts r 0) ≡
        use_share i m r (process_in steps j) (from_in steps j)
    left_is = grind (arith, share_is, from_read)

    entered_is : share_at s.to.0 m (get_or amounts r 0) ≡
        use_share i m r (process_in steps j) (to_in steps j)
    entered_is = grind (arith, share_is, to_read)

  module _ (a : List Machine) (steps : List Step) (j : ℕ) where
    module _ (m : ℕ) where
      -- the use after one more step
      use_next : (r : ℕ) → IsMove i a steps → j < length steps →
          use_of i (after_steps a steps (j + 1)) m r + use_share i m r (process_in steps j) (from_in steps j) ≡
          use_of i (after_steps a steps j) m r + use_share i m r (process_in steps j) (to_in steps j)
      unfolding use_of
      use_next r move within = tally_next i a steps _ j move within

      -- a row of use can follow the step
      pub can_follow : (s : Step) (row amounts : List ℕ) → WellFormed i → Small i → IsMove i a steps →
          j < length steps → s ≡ step_at steps j → IsRequiredRow i steps j amounts → length row ≡ resource_count i →
          IsUsageRow i (after_steps a steps j) m row → CanFollow s.from.0 s.to.0 m row amounts
      can_follow s row amounts limits small move within is required width usage = record {
        room = λ r inside. omega
            (arith, usage.each r (omega arith), use_under i (after_steps a steps j) m r limits small);
        enough = λ r inside. let here : r < resource_count i = omega arith in
            omega (
              arith,
              usage.each r here,
              left_is m r is required here,
              entered_is m r is required here,
              use_next r move within,
            );
      }

      -- and is then that of the assignment after it
      pub row_next : (s : Step) (old new amounts : List ℕ) → IsMove i a steps → j < length steps → s ≡ step_at steps j →
          IsRequiredRow i steps j amounts → length old ≡ resource_count i → IsUsageRow i (after_steps a steps j) m old →
          RowHasFollowed s.from.0 s.to.0 m old new amounts → IsUsageRow i (after_steps a steps (j + 1)) m new
      row_next s old new amounts move within is required width usage follows = grind (arith, left_is, entered_is, use_next)
