-- What a worker plans ahead: the plans of the proposals after its next one, which are right as long as no move is done.
use Rattle.std.specs.Prelude.{◌≡◌, ℕ, ◌+◌, ◌<◌, ◌≤◌, slice_index_or}
use Rattle.ra_moves.specs.declared.verdicts.Plan.{Plan}
use Rattle.ra_worker.specs.Replicas.{Progress, budget_at, IsPlanAt, IsNextPlan}
use Rattle.ra_worker.specs.declared.ahead.Ahead.{Ahead}

-- a plan, handed in at a later place
abbrev pub moved_to : ℕ → Plan → Plan
moved_to place plan = record plan { q = place }

-- plan j of those that were made ahead, and past their end another one
abbrev pub ahead_at : Ahead → ℕ → Plan → Plan
ahead_at ahead j other = slice_index_or ahead.plans j other

-- one plan more was made ahead
pub record HasAdded (before after : Ahead) (plan : Plan) : Type 0 where
  pub made : after.made ≡ before.made + 1
  pub at : after.at ≡ before.at
  pub last : (d : Plan) → ahead_at after before.made d ≡ plan
  pub others : (j : ℕ) (d : Plan) → j < before.made → ahead_at after j d ≡ ahead_at before j d

-- the next plan of a round has this place, if it is one that was made ahead; nothing else has changed
pub record HasPlaced (before after : Ahead) (place : ℕ) : Type 0 where
  pub made : after.made ≡ before.made
  pub at : after.at ≡ before.at
  pub there :
      (j : ℕ) (d : Plan) → j + 1 ≡ before.at
      → ahead_at after j d ≡ moved_to place (ahead_at before j d)
  pub others :
      (j : ℕ) (d : Plan) → (j + 1 ≡ before.at → ⊥) → ahead_at after j d ≡ ahead_at before j d

-- at most 63 plans were made ahead, those of a replica's proposals from number n on; each is the plan that would be made
-- at its place
pub record AreAhead (r : Progress) (n : ℕ) (ahead : Ahead) : Type 0 where
  pub few : ahead.made ≤ 63
  pub within : n + ahead.made ≤ budget_at r
  pub each :
      (j : ℕ) (d : Plan) → j < ahead.made
      → IsPlanAt r (n + j) (moved_to r.place (ahead_at ahead j d))

-- the plans of a round, whose plan 0 is of proposal n, are right: the next of them is of the replica's next proposal
pub record PlansStand (r : Progress) (n : ℕ) (first : Plan) (ahead : Ahead) : Type 0 where
  pub next : r.next ≡ n + ahead.at
  pub fresh : ahead.at ≡ 0 → IsNextPlan r first
  pub later : AreAhead r (n + 1) ahead
