-- What holds of the bound for every instance and every feasible assignment.
use Rattle.std.specs.Prelude.{◌≤◌, List}
use Rattle.ra_base.specs.declared.ids.Machine.{Machine}
use Rattle.ra_model.specs.declared.raw.Tables.{Tables}
use Rattle.ra_model.specs.Limits.{WellFormed}
use Rattle.ra_model.specs.Assignments.{IsAssignment}
use Rattle.ra_model.specs.Feasible.{Feasible}
use Rattle.ra_model.specs.Costs.{load_cost, balance_cost, objective}
use Rattle.ra_bounds.specs.Bounds.{load_bound, balance_bound, bound_of}
use Rattle.ra_bounds.specs.PinnedBounds.{pinned_load_bound, pinned_bound_of}

-- the bound is at most the cost of an assignment, and so is each of its parts
pub record IsLowerBound (i : Tables) (a0 a : List Machine) : Type 0 where
  pub load : load_bound i ≤ load_cost i a
  pub balance : balance_bound i ≤ balance_cost i a
  pub total : (bound_of i).total ≤ objective i a0 a

-- no feasible assignment costs less than the bound
abbrev pub NoneCostsLess : Type 0
NoneCostsLess =
    (i : Tables) (a0 a : List Machine) → WellFormed i → IsAssignment i a → Feasible i a0 a
    → IsLowerBound i a0 a

-- the bound of an instance and a start is at most the cost of an assignment, and so is each of its parts
pub record IsBelowPinned (i : Tables) (a0 a : List Machine) : Type 0 where
  pub load : pinned_load_bound i a0 ≤ load_cost i a
  pub balance : balance_bound i ≤ balance_cost i a
  pub total : (pinned_bound_of i a0).total ≤ objective i a0 a

-- no assignment that is feasible with respect to the start costs less than the bound of both
abbrev pub NoneCostsLessPinned : Type 0
NoneCostsLessPinned =
    (i : Tables) (a0 a : List Machine) → WellFormed i → IsAssignment i a → Feasible i a0 a
    → IsBelowPinned i a0 a

-- the bound of an instance and a start is at least the bound of the instance alone
abbrev pub PinnedIsAtLeast : Type 0
PinnedIsAtLeast =
    (i : Tables) (a0 : List Machine) → (bound_of i).total ≤ (pinned_bound_of i a0).total
