-- What a search does with the situation in which it stands.
use Rattle.std.specs.Prelude.{◌≡◌, ◌⊎◌, ℕ, ◌<◌, ◌≤◌, List, length, Bool, true, false}
use Rattle.ra_model.specs.Numbers.{machine_count, process_count}
use Rattle.ra_model.specs.declared.raw.Tables.{Tables}
use Rattle.ra_model.specs.Assignments.{machine_at}
use Rattle.ra_model.specs.Situations.{Situation, cost_at}
use Rattle.ra_moves.specs.declared.steps.Step.{Step}
use Rattle.ra_moves.specs.declared.verdicts.Verdict.TheVariants.{Done}
use Rattle.ra_moves.specs.Judging.{judge}
use Rattle.ra_moves.specs.Moving.{MayMove}
use Rattle.ra_moves.specs.Replacing.{after_move}
use Rattle.ra_moves.specs.Steps.{step_at}

-- the same instance and start, and maybe another list
abbrev pub Reaches : Situation → Situation → Type 0
Reaches old new = new ≡ record old { here = new.here }

-- the move was made, and the judge calls it done with this allowance
pub record HasMade (old new : Situation) (steps : List Step) (allowed : ℕ) : Type 0 where
  pub may : MayMove old steps
  pub judged : judge old steps allowed ≡ Done (cost_at new)
  pub moved : new ≡ after_move old steps

-- the move was made; or nothing was done, and if it is a move of the present list the judge doesn't call it done
pub record HasTried (old new : Situation) (steps : List Step) (allowed : ℕ) (done : Bool) : Type 0 where
  pub made : done ≡ true → HasMade old new steps allowed
  pub left : done ≡ false → new ≡ old
  pub refused : (cost : ℕ) → done ≡ false → MayMove old steps → judge old steps allowed ≡ Done cost → ⊥

-- nothing was done, or one move was made that the judge calls done with this allowance
abbrev pub HasVisited : Situation → Situation → ℕ → Type 0
HasVisited old new allowed = (new ≡ old) ⊎ ((steps : List Step) × HasMade old new steps allowed)

-- a step names a process that is on the machine that it leaves, and a machine of the instance
pub record StepStands (st : Situation) (step : Step) : Type 0 where
  pub process : step.process.0 < process_count st.tables
  pub from : machine_at st.here step.process.0 ≡ step.from.0
  pub to : step.to.0 < machine_count st.tables

-- so does each step
pub record Stands (st : Situation) (steps : List Step) : Type 0 where
  pub each : (j : ℕ) → j < length steps → StepStands st (step_at steps j)

-- a step names a process and two machines of the instance
pub record NamesIn (i : Tables) (step : Step) : Type 0 where
  pub process : step.process.0 < process_count i
  pub from : step.from.0 < machine_count i
  pub to : step.to.0 < machine_count i

-- so does each step
pub record Names (i : Tables) (steps : List Step) : Type 0 where
  pub each : (j : ℕ) → j < length steps → NamesIn i (step_at steps j)

-- the same instance and start, and a list that costs no more
pub record HasSettled (old new : Situation) : Type 0 where
  pub reaches : Reaches old new
  pub no_dearer : cost_at new ≤ cost_at old
