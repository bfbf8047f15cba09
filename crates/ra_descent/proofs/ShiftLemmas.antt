-- The one step of a shift, and the verdict on it.
use Rattle.std.proofs.Common.{◌≡◌, ℕ, zero, suc, ◌<◌, ◌≤◌, arith, List, [], ◌∷◌, length, Option, Some, None, refl, ap}
use Rattle.ra_base.specs.Searches.{or_else}
use Rattle.ra_base.specs.declared.causes.Cause.{Cause}
use Rattle.ra_base.specs.declared.ids.Machine.{Machine}
use Rattle.ra_base.specs.declared.ids.Process.{Process}
use Rattle.ra_model.specs.Numbers.{machine_count}
use Rattle.ra_model.specs.Assignments.{machine_at}
use Rattle.ra_model.specs.Situations.{Situation, cost_at}
use Rattle.ra_moves.specs.declared.steps.Step.{Step}
use Rattle.ra_moves.specs.declared.verdicts.Verdict.TheVariants.{Done}
use Rattle.ra_moves.specs.Judging.{judge, verdict_of}
use Rattle.ra_moves.specs.Options.{leaving}
use Rattle.ra_moves.specs.Steps.{step_at, process_in, from_in, to_in, StandsAt}
use Rattle.ra_shift.specs.Arriving.{steps_to}
use Rattle.ra_descent.specs.Cheapest.{IsDear, IsCheapest}
use Rattle.ra_descent.specs.Optimal.{NoShiftOf}
use Rattle.ra_descent.specs.declared.cheapest.Cheapest.{Cheapest}

module _ (st : Situation) (p to : ℕ) where
  known : p < length st.here → (j : ℕ) → j < length (steps_to st p to) →
      process_in (steps_to st p to) j < length st.here
  unfolding process_in step_at leaving
  known there zero within = there
  known there (suc j) within = absurd (omega arith)

  stands : (j : ℕ) → j < length (steps_to st p to) →
      machine_at st.here (process_in (steps_to st p to) j) ≡ from_in (steps_to st p to) j
  unfolding process_in from_in step_at leaving
  stands zero within = refl
  stands (suc j) within = absurd (omega arith)

  pub shift_stands : p < length st.here → StandsAt from_in (steps_to st p to) st.here
  shift_stands there = record { known = known there; at = stands }

  pub shift_reaches : to < machine_count st.tables → (j : ℕ) → j < length (steps_to st p to) →
      to_in (steps_to st p to) j < machine_count st.tables
  unfolding to_in step_at leaving
  shift_reaches below zero within = below
  shift_reaches below (suc j) within = absurd (omega arith)

-- the steps of a shift from the machine of its process
pub steps_are : (st : Situation) (p : Process) (from to : Machine) → from.0 ≡ machine_at st.here p.0 →
    (record { process = p; from = from; to = to }) ∷ [] ≡ steps_to st p.0 to.0
unfolding leaving
steps_are st p from to is =
    ap (λ (m : ℕ). let steps : List Step = (record { process = p; from = record { 0 = m }; to = to }) ∷ [] in steps) is

-- a move that is done breaks nothing, and its cost is that after it
done_free : (broken rise : Option Cause) (after cost : ℕ) → verdict_of (or_else broken rise) after ≡ Done cost →
    (broken ≡ None) × (after ≡ cost)
unfolding or_else verdict_of
done_free None None after cost is = (refl, cc)
done_free None (Some cause) after cost is = absurd (cc)
done_free (Some cause) rise after cost is = absurd (cc)

module _ (st : Situation) (p : ℕ) where
  -- a shift that is done isn't dear at more than its cost
  done_dear : (m cost : ℕ) → IsDear st p m (cost_at st) → judge st (steps_to st p m) 0 ≡ Done cost → cost_at st ≤ cost
  unfolding judge
  done_dear m cost dear done =
      let is = done_free _ _ _ cost done in omega (arith, dear is.0, is.1)

  -- without a machine to which the shift makes the list cheaper, there is none
  pub no_shift : {n : ℕ} (best : Cheapest) → n ≡ machine_count st.tables → IsCheapest st p n best → best.to ≡ None →
      NoShiftOf st p
  no_shift best all is none = record {
    each = λ m cost within done. done_dear m cost
        (λ free. omega (arith, is.each m (omega arith) free, is.offer.none none)) done;
  }
