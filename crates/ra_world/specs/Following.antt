-- What the steps of a move need so that they can be followed one after another.
use Rattle.std.specs.Prelude.{◌≢◌, ℕ, ◌<◌, List, length}
use Rattle.ra_base.specs.declared.ids.Machine.{Machine}
use Rattle.ra_model.specs.declared.raw.Tables.{Tables}
use Rattle.ra_model.specs.Numbers.{machine_count}
use Rattle.ra_moves.specs.declared.steps.Step.{Step}
use Rattle.ra_moves.specs.Steps.{from_in, to_in, StandsAt, Distinct}

-- each process is named once, is on its `from`, and goes to another machine of the instance
pub record AreSteps (i : Tables) (a : List Machine) (steps : List Step) : Type 0 where
  pub stand : StandsAt from_in steps a
  pub distinct : Distinct steps
  pub apart : (j : ℕ) → j < length steps → from_in steps j ≢ to_in steps j
  pub reach : (j : ℕ) → j < length steps → to_in steps j < machine_count i
