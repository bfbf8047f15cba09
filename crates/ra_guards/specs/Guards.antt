-- The guards of a move: the machines and services on which its verdict rests (this project's).
use Rattle.std.specs.Prelude.{ℕ, ◌<◌, List, length, Bool, false, ◌||◌}
use Rattle.ra_base.specs.declared.ids.Guard.{Guard}
use Rattle.ra_base.specs.declared.ids.Guard.TheVariants as guard
use Rattle.ra_model.specs.declared.raw.Tables.{Tables}
use Rattle.ra_model.specs.Numbers.{machine_count, process_count, service_of}
use Rattle.ra_moves.specs.declared.steps.Step.{Step}
use Rattle.ra_moves.specs.Steps.{process_in, from_in, to_in}
use Rattle.ra_moves.specs.Touched.{touches_machine, moves_service, reads_service, guards_service}

-- the write guards of a move: the machines that its steps leave and enter, and the services of its processes
unfoldable pub writes : Tables → List Step → Guard → Bool
writes i steps (guard.Machine m) = touches_machine steps m.0
writes i steps (guard.Service s) = moves_service i steps s.0

-- the read guards of a move: the services on which a service of its processes depends, and those that depend on such a
-- service
unfoldable pub reads : Tables → List Step → Guard → Bool
reads i steps (guard.Machine m) = false
reads i steps (guard.Service s) = reads_service i steps s.0

-- the guards of a move, for writing or for reading
unfoldable pub is_guard : Tables → List Step → Guard → Bool
is_guard i steps g = writes i steps g || reads i steps g

-- each step moves a process of the instance
pub record AreKnown (i : Tables) (steps : List Step) : Type 0 where
  pub each : (j : ℕ) → j < length steps → process_in steps j < process_count i

-- each step moves a process of the instance from one of its machines to one of its machines
pub record AreWithin (i : Tables) (steps : List Step) : Type 0 where
  pub process : (j : ℕ) → j < length steps → process_in steps j < process_count i
  pub from : (j : ℕ) → j < length steps → from_in steps j < machine_count i
  pub to : (j : ℕ) → j < length steps → to_in steps j < machine_count i

-- a step of another move leaves or enters a machine that is a guard, or moves a process of a service that is one
unfoldable pub meets_step : Tables → List Step → Step → Bool
meets_step i steps other =
    touches_machine steps other.from.0 || touches_machine steps other.to.0 || guards_service i steps
    (service_of i other.process.0)
