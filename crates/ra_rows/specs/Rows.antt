-- What rows represent.
use Rattle.std.specs.Prelude.{◌≡◌, ℕ, ◌*◌, ◌^◌, ◌<◌, List, length, slice_index_or}
use Rattle.ra_base.specs.Tables.{cell}
use Rattle.ra_base.specs.declared.ids.Machine.{Machine}
use Rattle.ra_model.specs.declared.raw.Tables.{Tables}
use Rattle.ra_model.specs.Numbers.{resource_count, machine_count}
use Rattle.ra_model.specs.Assignments.{IsAssignment, machine_at}
use Rattle.ra_model.specs.Usage.{use_of, transient_of}
use Rattle.ra_rows.specs.RowTables.{RowTables}

-- rows represent an assignment: they have the use and the transient use of each resource of each machine
pub record StandFor (rows : RowTables) (a : List Machine) : Type 0 where
  pub fits : IsAssignment rows.tables a
  pub usage : (m r : ℕ) → r < resource_count rows.tables
      → cell (resource_count rows.tables) rows.used m r ≡ use_of rows.tables a m r
  pub transient : (m r : ℕ) → r < resource_count rows.tables
      → cell (resource_count rows.tables) rows.between m r
      ≡ transient_of rows.tables rows.start a m r

-- rows represent some assignment that has process p on machine `from`
pub record HasAt (rows : RowTables) (p from : ℕ) : Type 0 where
  pub assignment : List Machine
  pub stands : StandFor rows assignment
  pub at : machine_at assignment p ≡ from

-- the number of each resource is its use on machine m
pub record IsUsageRow (i : Tables) (a : List Machine) (m : ℕ) (row : List ℕ) : Type 0 where
  pub each : (r : ℕ) → r < resource_count i → slice_index_or row r 0 ≡ use_of i a m r

-- the number of each resource is its transient use on machine m
pub record IsTransientRow (i : Tables) (a0 a : List Machine) (m : ℕ) (row : List ℕ) : Type 0 where
  pub each : (r : ℕ) → r < resource_count i → slice_index_or row r 0 ≡ transient_of i a0 a m r

-- each number is below a bound
pub record AreBelow (bound : ℕ) (row : List ℕ) : Type 0 where
  pub each : (r : ℕ) → slice_index_or row r 0 < bound

-- each cell of a table is below a bound
pub record IsBelow (width bound : ℕ) (table : List ℕ) : Type 0 where
  pub each : (m r : ℕ) → r < width → cell width table m r < bound

-- an invariant of all rows: the initial assignment fits the instance, and each table has a small number for each
-- machine and resource
pub record AreRows (rows : RowTables) : Type 0 where
  pub start : IsAssignment rows.tables rows.start
  pub used_grid : length rows.used ≡ machine_count rows.tables * resource_count rows.tables
  pub between_grid : length rows.between ≡ machine_count rows.tables * resource_count rows.tables
  pub used_below : IsBelow (resource_count rows.tables) (2 ^ 48) rows.used
  pub between_below : IsBelow (resource_count rows.tables) (2 ^ 48) rows.between
