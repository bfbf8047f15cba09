-- A shift is refused for no cause exactly if its conditions are met.
use Rattle.std.proofs.Common.{◌≡◌, ◌≢◌, ◌↔◌, ℕ, ◌<◌, true, false, List, [], ◌∷◌, None, eqb, refl, arith, eq-eqb, ne_eqb}
use Rattle.std.proofs.lemmas.Bool.{both_ways, false≢true}
use Rattle.ra_base.specs.Searches.{or_else, first}
use Rattle.ra_base.specs.Sums.{is_named}
use Rattle.ra_base.specs.declared.ids.Machine.{Machine}
use Rattle.ra_base.proofs.Searches.{left_none, right_none, both_none, first_none_at}
use Rattle.ra_model.specs.Numbers.{machine_count, process_count}
use Rattle.ra_model.specs.Limits.{WellFormed, Small}
use Rattle.ra_model.specs.Assignments.{IsAssignment, machine_at}
use Rattle.ra_model.specs.Broken.{cause_if}
use Rattle.ra_model.specs.Situations.{Situation, broken_at, IsFeasible, IsSound}
use Rattle.ra_model.proofs.TallyLemmas.{fits_set}
use Rattle.ra_model.proofs.BrokenLemmas.{cause_none, cause_free, feasible_from_unbroken, unbroken_from_feasible}
use Rattle.ra_moves.specs.Steps.{process_in, from_in, to_in, step_at}
use Rattle.ra_moves.specs.Replacing.{after_steps, applied}
use Rattle.ra_moves.specs.Judging.{repeat_test, repeat_of, same_test, same_of, broken_by}
use Rattle.ra_moves.specs.Options.{leaving}
use Rattle.ra_shift.specs.Conditions.{shifted, Allows}
use Rattle.ra_shift.proofs.RoomLaws.{IsStart, placed, room_from, between_from, capacity_after, transient_after}
use Rattle.ra_shift.proofs.MemberLaws.{alone_from, conflict_after, spread_after, closed_after}
use Rattle.ra_shift.proofs.NeedLaws.{needs_from, leaves_from, dependency_after}

-- what a process and its world are
pub record IsAt (st : Situation) (p to : ℕ) : Type 0 where
  pub formed : WellFormed st.tables
  pub small : Small st.tables
  pub fits : IsAssignment st.tables st.here
  pub unbroken : broken_at st ≡ None
  pub known : p < process_count st.tables
  pub reach : to < machine_count st.tables

module _ (a : List Machine) (p to : ℕ) where
  -- the one step of a shift
  pub applied_one : applied a (leaving a p to ∷ []) ≡ shifted a p to
  unfolding applied after_steps process_in step_at leaving
  applied_one = refl

  pub no_repeat : repeat_of (leaving a p to ∷ []) ≡ None
  unfolding repeat_of repeat_test first cause_if is_named or_else
  no_repeat = refl

  apart_from : same_of (leaving a p to ∷ []) ≡ None → machine_at a p ≢ to
  unfolding same_of same_test from_in to_in step_at leaving
  apart_from none same =
      both_ways (eqb (machine_at a p) to)
      (cause_none _ _ (first_none_at 0 1 (same_test (leaving a p to ∷ [])) (omega arith) none))
      (eq-eqb (machine_at a p) to same)

  pub same_none : machine_at a p ≢ to → same_of (leaving a p to ∷ []) ≡ None
  unfolding same_of same_test first or_else from_in to_in step_at leaving
  same_none apart = cause_free _ _ (ne_eqb (machine_at a p) to apart)

module _ (st : Situation) (p to : ℕ) where
  pub start_of : IsAt st p to → machine_at st.here p ≢ to →
      IsStart st p to
  start_of h apart = record {
    formed = h.formed;
    small = h.small;
    fits = h.fits;
    feasible = feasible_from_unbroken st.tables st.start st.here h.formed h.fits h.unbroken;
    known = h.known;
    reach = h.reach;
    apart = apart;
  }

  -- what the judge asks of a shift
  unbroken_after : broken_by st (leaving st.here p to ∷ []) ≡ None →
      broken_at (record st { here = shifted st.here p to }) ≡ None
  unfolding broken_by
  unbroken_after none = grind (arith, applied_one, right_none)

  pub apart_after : broken_by st (leaving st.here p to ∷ []) ≡ None →
      machine_at st.here p ≢ to
  unfolding broken_by
  apart_after none = grind (arith, apart_from, left_none, right_none)

  unbroken_from : machine_at st.here p ≢ to →
      broken_at (record st { here = shifted st.here p to }) ≡ None → broken_by st (leaving st.here p to ∷ []) ≡ None
  unfolding broken_by
  unbroken_from apart none = grind (arith, both_none, no_repeat, same_none, applied_one)

  -- all constraints after it
  feasible_after : IsStart st p to → Allows st p to →
      IsFeasible (record st { here = shifted st.here p to })
  feasible_after h allows =
      grind (arith, capacity_after, transient_after, conflict_after, spread_after, dependency_after, closed_after)

  allows_from : IsStart st p to → IsFeasible (record st { here = shifted st.here p to }) →
      Allows st p to
  allows_from h after = grind (arith, room_from, between_from, alone_from, needs_from, leaves_from, placed)

  pub allowed : IsAt st p to →
      broken_by st (leaving st.here p to ∷ []) ≡ None → Allows st p to
  allowed h none = grind (arith, start_of, apart_after, allows_from, feasible_from_unbroken, fits_set, unbroken_after)

  pub unbroken : IsAt st p to → Allows st p to →
      broken_by st (leaving st.here p to ∷ []) ≡ None
  unbroken h allows = grind (arith, unbroken_from, unbroken_from_feasible, feasible_after, start_of)

  -- in a world
  pub at_of : IsSound st → p < process_count st.tables → to < machine_count st.tables →
      IsAt st p to
  at_of sound known reach = record {
    formed = sound.well_formed;
    small = sound.small;
    fits = sound.fits;
    unbroken = sound.unbroken;
    known = known;
    reach = reach;
  }

-- a test that is false if a shift breaks something
pub refused : {B : Type 0} → (B → ⊥) → (false ≡ true) ↔ B
refused lacks = (λ e. absurd (false≢true e), λ b. absurd (lacks b))
