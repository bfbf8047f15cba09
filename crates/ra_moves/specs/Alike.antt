-- Two assignments are alike for a move if its machines hold the same processes in both, and if the processes of each
-- service that it moves, or that is joined with such a service, have the same machines.
use Rattle.std.specs.Prelude.{◌≡◌, ℕ, List, true, ◌==◌}
use Rattle.ra_base.specs.declared.ids.Machine.{Machine}
use Rattle.ra_model.specs.declared.raw.Tables.{Tables}
use Rattle.ra_model.specs.Numbers.{service_of}
use Rattle.ra_model.specs.Assignments.{machine_at}
use Rattle.ra_moves.specs.declared.steps.Step.{Step}
use Rattle.ra_moves.specs.Touched.{touches_machine, guards_service}

-- machine m holds the same processes in both
pub record SameOn (a b : List Machine) (m : ℕ) : Type 0 where
  pub each : (p : ℕ) → (machine_at a p == m) ≡ (machine_at b p == m)

-- each process of service s has the same machine in both
pub record SameOf (i : Tables) (a b : List Machine) (s : ℕ) : Type 0 where
  pub each : (p : ℕ) → service_of i p ≡ s → machine_at a p ≡ machine_at b p

pub record HeldAlike (i : Tables) (steps : List Step) (a b : List Machine) : Type 0 where
  pub machines : (m : ℕ) → touches_machine steps m ≡ true → SameOn a b m
  pub services : (s : ℕ) → guards_service i steps s ≡ true → SameOf i a b s
