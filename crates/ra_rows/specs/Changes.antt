-- Changes of a table by machine and resource.
use Rattle.std.specs.Prelude.{◌≡◌, ◌≢◌, ℕ, ◌+◌, ◌*◌, ◌^◌, ◌<◌, ◌≤◌, if◌then◌else◌, ◌==◌, List, length}
use Rattle.ra_base.specs.Tables.{cell}
use Rattle.ra_base.specs.declared.ids.Machine.{Machine}
use Rattle.ra_model.specs.declared.raw.Tables.{Tables}
use Rattle.ra_model.specs.Numbers.{resource_count, machine_count, requirement_of}
use Rattle.ra_model.specs.Assignments.{tally}
use Rattle.ra_rows.specs.Rows.{IsBelow}

-- an amount at row `at`, and zero at all other rows
unfoldable pub at_row : ℕ → ℕ → ℕ → ℕ
at_row at amount m = if at == m then amount else 0

-- an amount at row `at` unless it is the home row, and zero at all other rows
unfoldable pub away_row : ℕ → ℕ → ℕ → ℕ → ℕ
away_row home at amount m = if home == at then 0 else at_row at amount m

-- one table has more than another in one column, by this amount in each row, and as much in all others
pub record HasMore (width column : ℕ) (extra : ℕ → ℕ) (low high : List ℕ) : Type 0 where
  pub here : (m : ℕ) → cell width high m column ≡ cell width low m column + extra m
  pub others : (m r : ℕ) → r < width → r ≢ column → cell width high m r ≡ cell width low m r
  pub same_length : length high ≡ length low

-- in one column an amount of each row has left and another has come; all other columns are as they were
pub record Moves (width column : ℕ) (left come : ℕ → ℕ) (old new : List ℕ) : Type 0 where
  pub here : (m : ℕ) → cell width new m column + left m ≡ cell width old m column + come m
  pub others : (m r : ℕ) → r < width → r ≢ column → cell width new m r ≡ cell width old m r
  pub same_length : length new ≡ length old

-- in every cell the share of process p on machine `from` has left, and its share on machine `to` has come
pub record Shifts (width : ℕ) (share : ℕ → ℕ → ℕ → ℕ → ℕ) (p from to : ℕ) (old new : List ℕ) : Type
    0 where
  pub each : (m r : ℕ) → r < width
      → cell width new m r + share m r p from ≡ cell width old m r + share m r p to
  pub same_length : length new ≡ length old

-- the share of process p on machine `at` has come in every cell
pub record Adds (width : ℕ) (share : ℕ → ℕ → ℕ → ℕ → ℕ) (p at : ℕ) (old new : List ℕ) : Type 0 where
  pub each : (m r : ℕ) → r < width → cell width new m r ≡ cell width old m r + share m r p at
  pub same_length : length new ≡ length old

-- each cell is the sum over the first n processes of their shares of its machine and resource
pub record IsTally (width n : ℕ) (share : ℕ → ℕ → ℕ → ℕ → ℕ) (a : List Machine) (table : List ℕ) :
    Type 0 where
  pub each : (m r : ℕ) → r < width → cell width table m r ≡ tally n (share m r) a

-- row `at` has at least what process p requires of each resource, so that it can be subtracted
pub record HasEnoughFor (i : Tables) (p at : ℕ) (table : List ℕ) : Type 0 where
  pub each : (r : ℕ) → r < resource_count i
      → requirement_of i p r ≤ cell (resource_count i) table at r

-- a table with a small number for each machine and resource, and its row `at` has at least what process p requires
pub record MayBeTakenFrom (i : Tables) (p at : ℕ) (table : List ℕ) : Type 0 where
  pub grid : length table ≡ machine_count i * resource_count i
  pub below : IsBelow (resource_count i) (2 ^ 48) table
  pub enough : HasEnoughFor i p at table
