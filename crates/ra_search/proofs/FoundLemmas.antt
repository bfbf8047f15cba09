-- What is found after a descent from the better of two lists.
use Rattle.std.proofs.Common.{◌≡◌, ◌≤◌, List, None, sym, subst}
use Rattle.ra_base.specs.declared.ids.Machine.{Machine}
use Rattle.ra_model.specs.Costs.{objective}
use Rattle.ra_model.specs.Situations.{Situation, situation, IsSound}
use Rattle.ra_model.proofs.BrokenLemmas.{feasible_from_unbroken}
use Rattle.ra_model.specs.Feasible.{Feasible}
use Rattle.ra_model.specs.declared.raw.Tables.{Tables}
use Rattle.ra_model.specs.Assignments.{IsAssignment}
use Rattle.ra_model.specs.Broken.{first_broken}
use Rattle.ra_model.specs.Limits.{WellFormed, Small}
use Rattle.ra_descent.specs.Optimal.{NoShiftCheaper}
use Rattle.ra_search.specs.declared.found.Told.{Told}
use Rattle.ra_search.specs.declared.kept.Kept.{Kept}
use Rattle.ra_search.specs.Found.{IsFound}
use Rattle.ra_search.specs.Kept.{IsKept, kept_at}
use Rattle.ra_search.specs.Moving.{Reaches}
use Rattle.ra_weigh.proofs.CostLaws.{total_now}

-- a kept list is feasible
pub kept_feasible : (st : Situation) (kept : Kept) → IsKept st kept → Feasible st.tables st.start kept.list.items
kept_feasible st kept is =
    feasible_from_unbroken st.tables st.start kept.list.items is.sound.well_formed is.sound.fits is.sound.unbroken

-- the parts of a kept list, and its cost
module _ (st : Situation) (kept : Kept) (is : IsKept st kept) where
  pub kept_cost : kept.parts.total ≡ objective st.tables st.start kept.list.items
  kept_cost = total_now is.sound is.parts

module _ (st : Situation) (best last : Kept) (told : Told) (best_kept : IsKept st best) (last_kept : IsKept st last) where
  -- what is found, if the best list costs no more than the last one
  pub found : NoShiftCheaper (kept_at st best) →
      objective st.tables st.start best.list.items ≤ objective st.tables st.start last.list.items →
      (from : List Machine) → objective st.tables st.start best.list.items ≤ objective st.tables st.start from →
      IsFound st.tables st.start from
      (record { best = best.list; parts = best.parts; last = last.list; told = told })
  found optimal below from no_dearer = record {
    fits = best_kept.sound.fits;
    best = kept_feasible st best best_kept;
    parts = best_kept.parts;
    no_dearer = no_dearer;
    last_fits = last_kept.sound.fits;
    last = kept_feasible st last last_kept;
    below_last = below;
    optimal = optimal;
  }

-- what is kept doesn't depend on the present list
pub kept_from : (st : Situation) (here : List Machine) (kept : Kept) → IsKept (record st { here = here }) kept →
    IsKept st kept
kept_from st here kept is = record { sound = is.sound; parts = is.parts; room = is.room }

pub kept_to : (old new : Situation) (kept : Kept) → Reaches old new → IsKept old kept → IsKept new kept
kept_to old new kept reach is =
    subst (λ (st : Situation). IsKept st kept) (sym reach)
    (record { sound = is.sound; parts = is.parts; room = is.room })

-- a list that fits and breaks nothing is a sound situation
pub begins_sound : (i : Tables) (a0 from : List Machine) → WellFormed i → Small i → IsAssignment i a0 →
    IsAssignment i from → first_broken i a0 from ≡ None → IsSound (situation i a0 from)
begins_sound i a0 from well_formed small starts fits unbroken = record {
  well_formed = well_formed;
  small = small;
  starts = starts;
  fits = fits;
  unbroken = unbroken;
}
