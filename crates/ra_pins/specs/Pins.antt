-- What pins are.
use Rattle.std.specs.Prelude.{◌≡◌, ℕ, ◌<◌, List, Bool, length}
use Rattle.ra_base.specs.Tables.{cell}
use Rattle.ra_base.specs.declared.ids.Machine.{Machine}
use Rattle.ra_model.specs.declared.raw.Tables.{Tables}
use Rattle.ra_model.specs.Numbers.{resource_count, machine_count, process_count}
use Rattle.ra_model.specs.Assignments.{IsAssignment}
use Rattle.ra_pins.specs.Pinned.{is_pinned, pinned_load}
use Rattle.ra_pins.specs.PinLists.{PinLists, flag_at}

-- exactly the pinned processes are flagged
pub record AreExact (i : Tables) (a0 : List Machine) (flags : List Bool) : Type 0 where
  pub one_each : length flags ≡ process_count i
  pub each : (p : ℕ) → p < process_count i → flag_at flags p ≡ is_pinned i a0 p

-- pins of an instance and a start: the pinned processes, and the load of each resource of each machine by those of them
-- that start there
pub record ArePins (pins : PinLists) (i : Tables) (a0 : List Machine) : Type 0 where
  pub fits : IsAssignment i a0
  pub pinned : AreExact i a0 pins.flags
  pub machines : pins.machines ≡ machine_count i
  pub resources : pins.resources ≡ resource_count i
  pub loads : (m r : ℕ) → m < machine_count i → r < resource_count i
      → cell (resource_count i) pins.loads m r ≡ pinned_load i a0 m r

-- pins of an instance and some start
pub record ArePinsOf (pins : PinLists) (i : Tables) : Type 0 where
  pub a0 : List Machine
  pub stand : ArePins pins i a0
