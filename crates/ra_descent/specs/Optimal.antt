-- Lists that no move of a single process makes cheaper.
use Rattle.std.specs.Prelude.{◌≡◌, ℕ, ◌<◌, ◌≤◌}
use Rattle.ra_model.specs.Numbers.{machine_count, process_count}
use Rattle.ra_model.specs.Situations.{Situation, cost_at}
use Rattle.ra_moves.specs.Judging.{judge}
use Rattle.ra_moves.specs.declared.verdicts.Verdict.TheVariants.{Done}
use Rattle.ra_shift.specs.Arriving.{steps_to}

-- no shift of process p makes the present list cheaper: whatever machine it goes to, the judge doesn't call that shift
-- done at a lower cost
pub record NoShiftOf (st : Situation) (p : ℕ) : Type 0 where
  pub each : (m cost : ℕ) → m < machine_count st.tables → judge st (steps_to st p m) 0 ≡ Done cost
      → cost_at st ≤ cost

-- no move of a single process makes the present list cheaper: whatever process goes to whatever machine, the judge
-- doesn't call that shift done at a lower cost
pub record NoShiftCheaper (st : Situation) : Type 0 where
  pub each : (p m cost : ℕ) → p < process_count st.tables → m < machine_count st.tables
      → judge st (steps_to st p m) 0 ≡ Done cost → cost_at st ≤ cost
