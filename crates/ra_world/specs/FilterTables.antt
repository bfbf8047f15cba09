-- The filter rows of all machines in one flat list, row after row: those of the resources, then the first ones of the
-- balance objectives, then their second ones. After the last machine each row repeats the machines from the first on,
-- for 63 numbers, so that sixty-four neighbouring machines are side by side wherever they begin.
use Rattle.std.specs.Prelude.{◌≡◌, ◌≢◌, ℕ, ◌+◌, ◌-◌, ◌*◌, ◌%◌, ◌^◌, ◌<◌, ◌≤◌, ◌⊎◌, min, if◌then◌else◌, nat_lt, List}
use Rattle.std.specs.Prelude.{length}
use Rattle.ra_base.specs.Tables.{cell}
use Rattle.ra_base.specs.declared.ids.Machine.{Machine}
use Rattle.ra_model.specs.declared.raw.Tables.{Tables}
use Rattle.ra_model.specs.Numbers.{resource_count, machine_count, balance_count}
use Rattle.ra_rows.specs.FilterRows.{load_row, first_row, second_row}

-- how many rows there are
abbrev pub filter_row_count : Tables → ℕ
filter_row_count i = resource_count i + balance_count i + balance_count i

-- how many numbers a row has
abbrev pub filter_width : Tables → ℕ
filter_width i = machine_count i + 63

-- what machine m has in row j
unfoldable pub filter_row : Tables → List Machine → ℕ → ℕ → ℕ
filter_row i a m j =
    if nat_lt j (resource_count i) then load_row i a m j
    else if nat_lt j (resource_count i + balance_count i) then first_row i a m (j - resource_count i)
    else second_row i a m (j - resource_count i - balance_count i)

-- what machine m has in row j, and 2^30 if it is more
abbrev pub capped_row : Tables → List Machine → ℕ → ℕ → ℕ
capped_row i a m j = min (filter_row i a m j) (2 ^ 30)

-- the table of an assignment: number k of row j concerns machine k mod M
pub record IsRowTable (i : Tables) (a : List Machine) (table : List ℕ) : Type 0 where
  pub many : length table ≡ filter_row_count i * filter_width i
  pub each : (j k : ℕ) → j < filter_row_count i → k < filter_width i
      → cell (filter_width i) table j k ≡ capped_row i a (k % machine_count i) j

-- all machines but two have equal numbers in each row
pub record AreAlikeElsewhere (i : Tables) (a b : List Machine) (from to : ℕ) : Type 0 where
  pub each : (m j : ℕ) → from ≢ m → to ≢ m → capped_row i a m j ≡ capped_row i b m j

-- the first n rows have these numbers at the places of machine m, and all else is as it was
pub record IsColumnSet (i : Tables) (m n : ℕ) (number : ℕ → ℕ) (old new : List ℕ) : Type 0 where
  pub many : length new ≡ length old
  pub here : (j k : ℕ) → j < n → k < filter_width i → k % machine_count i ≡ m
      → cell (filter_width i) new j k ≡ number j
  pub others : (j k : ℕ) → k < filter_width i → (n ≤ j) ⊎ (k % machine_count i ≢ m)
      → cell (filter_width i) new j k ≡ cell (filter_width i) old j k

-- row j has this number at the places of machine m below `end`, and all else is as it was
pub record ArePlacesSet (i : Tables) (m j end number : ℕ) (old new : List ℕ) : Type 0 where
  pub many : length new ≡ length old
  pub here : (k : ℕ) → k < end → k < filter_width i → k % machine_count i ≡ m
      → cell (filter_width i) new j k ≡ number
  pub others : (l k : ℕ) → k < filter_width i → (l ≢ j) ⊎ (k % machine_count i ≢ m) ⊎ (end ≤ k)
      → cell (filter_width i) new l k ≡ cell (filter_width i) old l k
