-- The steps of a move, by number.
use Rattle.std.specs.Prelude.{◌≡◌, ◌≢◌, ℕ, ◌<◌, List, length, slice_index_or}
use Rattle.ra_base.specs.declared.ids.Machine.{Machine}
use Rattle.ra_model.specs.Assignments.{machine_at}
use Rattle.ra_moves.specs.declared.steps.Step.{Step}

-- step j
unfoldable pub step_at : List Step → ℕ → Step
step_at steps j =
    slice_index_or steps j
    (record { process = record { 0 = 0 }; from = record { 0 = 0 }; to = record { 0 = 0 } })

-- the process of step j, the machine that it leaves, and the machine that it enters
unfoldable pub process_in : List Step → ℕ → ℕ
process_in steps j = (step_at steps j).process.0

unfoldable pub from_in : List Step → ℕ → ℕ
from_in steps j = (step_at steps j).from.0

unfoldable pub to_in : List Step → ℕ → ℕ
to_in steps j = (step_at steps j).to.0

-- each step's process is a process of the assignment, on the machine that `place` gives for the step: `from_in` before
-- a move, `to_in` after it
pub record StandsAt (place : List Step → ℕ → ℕ) (steps : List Step) (a : List Machine) : Type 0
  where
    pub known : (j : ℕ) → j < length steps → process_in steps j < length a
    pub at : (j : ℕ) → j < length steps → machine_at a (process_in steps j) ≡ place steps j

-- no process is named twice
pub record Distinct (steps : List Step) : Type 0 where
  pub apart : (i j : ℕ) → i < j → j < length steps → process_in steps i ≢ process_in steps j
