-- Tables by machine and resource: rows that are added, and what a table of loads represents.
use Rattle.std.specs.Prelude.{◌≡◌, ℕ, ◌+◌, ◌*◌, ◌<◌, Bool, true, if◌then◌else◌, ◌==◌, not, List, length}
use Rattle.ra_base.specs.Tables.{cell}
use Rattle.ra_base.specs.declared.ids.Machine.{Machine}
use Rattle.ra_model.specs.declared.raw.Tables.{Tables}
use Rattle.ra_model.specs.Numbers.{resource_count, machine_count, transient_at, requirement_of}
use Rattle.ra_model.specs.Assignments.{tally}
use Rattle.ra_model.specs.Usage.{use_of}
use Rattle.ra_pins.specs.Pinned.{flagged_use}
use Rattle.ra_pins.specs.declared.tables.Columns.{Columns}
use Rattle.ra_pins.specs.declared.tables.Columns.TheVariants.{All, Transient, Others}

-- whether a resource counts, given whether it is transient
unfoldable pub takes : Columns → Bool → Bool
takes All transient = true
takes Transient transient = transient
takes Others transient = not transient

-- what process p requires of resource r if the resource counts, else 0
unfoldable pub amount_in : Tables → Columns → ℕ → ℕ → ℕ
amount_in i columns p r = if takes columns (transient_at i r) then requirement_of i p r else 0

-- this amount in row m, if the process is on machine `at`
unfoldable pub row_share : Tables → Columns → ℕ → ℕ → ℕ → ℕ → ℕ
row_share i columns m r p at = if at == m then amount_in i columns p r else 0

-- each cell has grown by the row share of process p
pub record AddsRow (i : Tables) (columns : Columns) (p at : ℕ) (old new : List ℕ) : Type 0 where
  pub each : (m r : ℕ) → r < resource_count i
      → cell (resource_count i) new m r
      ≡ cell (resource_count i) old m r + row_share i columns m r p at
  pub same_length : length new ≡ length old

-- each cell is below a bound
pub record IsBelow (i : Tables) (bound : ℕ) (table : List ℕ) : Type 0 where
  pub each : (m r : ℕ) → r < resource_count i → cell (resource_count i) table m r < bound

-- each cell is the sum over the first n processes of their shares of its machine and resource
pub record IsTallyTable (i : Tables) (n : ℕ) (share : ℕ → ℕ → ℕ → ℕ → ℕ) (a : List Machine)
    (table : List ℕ) : Type 0 where
  pub grid : length table ≡ machine_count i * resource_count i
  pub each : (m r : ℕ) → r < resource_count i
      → cell (resource_count i) table m r ≡ tally n (share m r) a

-- what is used of resource r of machine m at all times: by all processes that start there if the resource is transient,
-- else by the flagged ones
unfoldable pub kept_use : Tables → List Machine → (ℕ → Bool) → ℕ → ℕ → ℕ
kept_use i a0 x m r = if transient_at i r then use_of i a0 m r else flagged_use i a0 x m r

-- each cell of a table is the use at all times
pub record AreKept (i : Tables) (a0 : List Machine) (x : ℕ → Bool) (kept : List ℕ) : Type 0 where
  pub grid : length kept ≡ machine_count i * resource_count i
  pub each : (m r : ℕ) → r < resource_count i
      → cell (resource_count i) kept m r ≡ kept_use i a0 x m r
