-- What one visit of a process does.
use Rattle.std.specs.Prelude.{◌≡◌, ℕ, List, Bool, true, false}
use Rattle.ra_model.specs.Situations.{Situation}
use Rattle.ra_moves.specs.declared.steps.Step.{Step}
use Rattle.ra_sketch.specs.Leavers.{IsLeaverOf}
use Rattle.ra_search.specs.Moving.{HasMade}
use Rattle.ra_search.specs.declared.visits.Visit.{Visit}

-- a process of the instance that may leave its machine
abbrev pub Visits : Situation → Visit → Type 0
Visits st visit = IsLeaverOf st.tables visit.leaving

-- one move was made that the judge calls done with this allowance; or nothing was done
pub record HasMovedIf (old new : Situation) (allowed : ℕ) (moved : Bool) : Type 0 where
  pub made : moved ≡ true → (steps : List Step) × HasMade old new steps allowed
  pub left : moved ≡ false → new ≡ old
