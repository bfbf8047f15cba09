-- The requirements of the processes of a move, in a table of twenty columns.
use Rattle.std.specs.Prelude.{◌≡◌, ◌≢◌, ℕ, ◌<◌, List}
use Rattle.ra_base.specs.Tables.{cell}
use Rattle.ra_model.specs.declared.raw.Tables.{Tables}
use Rattle.ra_model.specs.Numbers.{resource_count, requirement_of}
use Rattle.ra_moves.specs.declared.steps.Step.{Step}
use Rattle.ra_moves.specs.Steps.{process_in}

-- row j has what the process of step j requires, for each of the first n steps
pub record AreRequiredRows (i : Tables) (steps : List Step) (n : ℕ) (table : List ℕ) : Type 0 where
  pub each : (j r : ℕ) → j < n → r < resource_count i
      → cell 20 table j r ≡ requirement_of i (process_in steps j) r

-- row j has the first n requirements of process p, and all other rows are as they were
pub record ReadTo (i : Tables) (p j n : ℕ) (old new : List ℕ) : Type 0 where
  pub here : (r : ℕ) → r < n → cell 20 new j r ≡ requirement_of i p r
  pub others : (k r : ℕ) → k ≢ j → r < 20 → cell 20 new k r ≡ cell 20 old k r
