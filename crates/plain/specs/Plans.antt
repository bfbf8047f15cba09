-- What holds of a planned move.
use Rattle.std.specs.Prelude.{◌≡◌, ℕ, ◌<◌, List, length, None}
use Rattle.ra_base.specs.declared.causes.Drawing.{Drawing}
use Rattle.ra_model.specs.Numbers.{machine_count}
use Rattle.ra_model.specs.Situations.{Situation}
use Rattle.ra_moves.specs.Steps.{StandsAt, Distinct, from_in, to_in}
use Rattle.ra_moves.specs.Judging.{judge, repeat_of}
use Rattle.ra_moves.specs.Options.{plan_of}
use Rattle.plain.specs.declared.planning.Planned.{Planned}

-- the plan of a proposal, with the verdict on it. Its processes are on the machines that its steps leave, its steps
-- enter machines of the instance, and it names each process once, unless it is refused as Repeat
pub record IsPlannedWithVerdict (st : Situation) (x : List ℕ) (d : Drawing) (allowed : ℕ) (planned : Planned) :
    Type 0 where
  pub move : planned.mv ≡ plan_of st x d allowed
  pub verdict : planned.verdict ≡ judge st planned.mv.steps allowed
  pub stands : StandsAt from_in planned.mv.steps st.here
  pub reaches :
      (j : ℕ) → j < length planned.mv.steps
      → to_in planned.mv.steps j < machine_count st.tables
  pub distinct : repeat_of planned.mv.steps ≡ None → Distinct planned.mv.steps
