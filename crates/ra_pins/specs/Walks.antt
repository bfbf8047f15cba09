-- How a process looks for a machine from which it isn't blocked: it goes round the circle of all machines, from the one
-- after its own.
use Rattle.std.specs.Prelude.{◌≡◌, ℕ, ◌+◌, ◌-◌, ◌<◌, ◌≤◌, Bool, true, false, if◌then◌else◌, nat_lt, List, length}
use Rattle.std.specs.Prelude.{slice_index_or}
use Rattle.ra_base.specs.Tables.{cell}
use Rattle.ra_base.specs.declared.ids.Machine.{Machine}
use Rattle.ra_model.specs.declared.raw.Tables.{Tables}
use Rattle.ra_model.specs.Numbers.{resource_count, machine_count, process_count, capacity_of, requirement_of}
use Rattle.ra_model.specs.Assignments.{machine_at}
use Rattle.ra_pins.specs.Pinned.{blocked}
use Rattle.ra_pins.specs.PinLists.{flag_at}

-- the machine that is some places after machine `home`, of those in a circle
unfoldable pub spot : ℕ → ℕ → ℕ → ℕ
spot machines home place =
    if nat_lt (home + place) machines then home + place else (home + place) - machines

-- what a table keeps for machine m leaves too little of resource r for process p
unfoldable pub overfull : Tables → List ℕ → ℕ → ℕ → ℕ → Bool
overfull i kept p m r =
    nat_lt (capacity_of i m r) (cell (resource_count i) kept m r + requirement_of i p r)

-- whether process p is blocked from the machine that is some places after its own
unfoldable pub blocked_at : Tables → List Machine → List Bool → ℕ → ℕ → Bool
blocked_at i a0 flags p place =
    blocked i a0 (flag_at flags) p (spot (machine_count i) (machine_at a0 p) place)

-- process p has come to a place: it is blocked from the machine of each place before it
pub record HasWalkedTo (i : Tables) (a0 : List Machine) (flags : List Bool) (p place : ℕ) : Type 0 where
  pub some : 1 ≤ place
  pub within : place ≤ machine_count i
  pub behind : (j : ℕ) → 1 ≤ j → j < place → blocked_at i a0 flags p j ≡ true

-- each process has come to its place
pub record AreWalked (i : Tables) (a0 : List Machine) (flags : List Bool) (places : List ℕ) : Type 0
  where
    pub one_each : length places ≡ process_count i
    pub each : (p : ℕ) → p < process_count i → HasWalkedTo i a0 flags p (slice_index_or places p 0)

-- a place is the next one, from one on, from whose machine the process isn't blocked, or the end of the circle
pub record IsWalk (i : Tables) (a0 : List Machine) (flags : List Bool) (p from to : ℕ) : Type 0
  where
    pub onward : from ≤ to
    pub within : to ≤ machine_count i
    pub behind : (j : ℕ) → from ≤ j → j < to → blocked_at i a0 flags p j ≡ true
    pub free : to < machine_count i → blocked_at i a0 flags p to ≡ false
