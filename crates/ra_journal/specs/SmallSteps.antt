-- Steps that fit into six bytes.
use Rattle.std.specs.Prelude.{◌<◌, ◌^◌, ℕ, List, length}
use Rattle.ra_moves.specs.declared.steps.Step.{Step}
use Rattle.ra_moves.specs.Steps.{step_at}

-- a step's process and its machines are below 2 ^ 16
pub record IsSmallStep (s : Step) : Type 0 where
  pub process : s.process.0 < 2 ^ 16
  pub from : s.from.0 < 2 ^ 16
  pub to : s.to.0 < 2 ^ 16

-- the processes and the machines of these steps are below 2 ^ 16
pub record AreSmallSteps (steps : List Step) : Type 0 where
  pub each : (j : ℕ) → j < length steps → IsSmallStep (step_at steps j)
