-- What is computed of one move: its cost if it can still win, and its weighing if it is planned.
use Rattle.std.specs.Prelude.{◌≡◌, ℕ, List, [], ◌∷◌}
use Rattle.ra_base.specs.declared.causes.Drawing.{Drawing}
use Rattle.ra_model.specs.Situations.{Situation}
use Rattle.ra_moves.specs.declared.steps.Step.{Step}
use Rattle.ra_moves.specs.declared.verdicts.Weighed.{Weighed}
use Rattle.ra_moves.specs.MoveSteps.{MoveSteps}
use Rattle.ra_moves.specs.Moving.{IsOffered}
use Rattle.ra_moves.specs.Options.{leaving, plan_of}
use Rattle.ra_moves.specs.Steps.{step_at}
use Rattle.ra_moves.specs.Weighing.{weighed_of}

-- the steps are one shift of process p from its machine to the machine of the first step
abbrev pub IsShiftOf : Situation → ℕ → List Step → Type 0
IsShiftOf st p steps = steps ≡ leaving st.here p (step_at steps 0).to.0 ∷ []

-- the planned move of the words on the assignment of a world, with its weighing there
pub record IsPlanned (st : Situation) (x : List ℕ) (d : Drawing) (allowed : ℕ) (mv : MoveSteps)
    (weighed : Weighed) : Type 0 where
  pub planned : mv ≡ plan_of st x d allowed
  pub weighing : weighed ≡ weighed_of st mv.steps
  pub offered : IsOffered st.tables st.here mv.steps
