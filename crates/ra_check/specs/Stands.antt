-- What a table of sums, by machine and resource, represents.
use Rattle.std.specs.Prelude.{◌≡◌, ℕ, ◌+◌, ◌<◌, Bool, true, false, if◌then◌else◌, ◌==◌, List, slice_index}
use Rattle.ra_base.specs.Tables.{cell}
use Rattle.ra_base.specs.declared.ids.Machine.{Machine}
use Rattle.ra_model.specs.declared.raw.Tables.{Tables}
use Rattle.ra_model.specs.Numbers.{resource_count, process_count}
use Rattle.ra_model.specs.Assignments.{machine_at, tally}
use Rattle.ra_model.specs.Usage.{use_share, transient_share}
use Rattle.ra_model.specs.Services.{of_service}

-- each cell is the sum over the first n processes of their shares of its machine and resource
pub record IsTally (width n : ℕ) (share : ℕ → ℕ → ℕ → ℕ → ℕ) (a : List Machine) (table : List ℕ) :
    Type 0 where
  pub each : (m r : ℕ) → r < width → cell width table m r ≡ tally n (share m r) a

-- each cell is the use of its resource on its machine
abbrev pub IsUsage : Tables → List Machine → List ℕ → Type 0
IsUsage i a table = IsTally (resource_count i) (process_count i) (use_share i) a table

-- each cell is the transient use of its resource on its machine
abbrev pub IsTransientUse : Tables → List Machine → List Machine → List ℕ → Type 0
IsTransientUse i a0 a table =
    IsTally (resource_count i) (process_count i) (transient_share i a0) a table

-- each cell has grown by the share of process p, which is on machine `at`
pub record AddsShare (width : ℕ) (share : ℕ → ℕ → ℕ → ℕ → ℕ) (p at : ℕ) (old new : List ℕ) : Type 0
  where
    pub each : (m r : ℕ) → r < width → cell width new m r ≡ cell width old m r + share m r p at

-- each cell is below a bound
pub record IsBelow (width bound : ℕ) (table : List ℕ) : Type 0 where
  pub each : (m r : ℕ) → r < width → cell width table m r < bound

-- whether process p, which is on machine `at`, isn't on its initial machine
abbrev pub has_moved : List Machine → ℕ → ℕ → Bool
has_moved a0 p at = if machine_at a0 p == at then false else true

-- each number is how many of the first n processes of its service aren't on their initial machine
pub record HasMoved (i : Tables) (a0 a : List Machine) (n : ℕ) (counts : List ℕ) : Type 0 where
  pub each : (s : ℕ) → slice_index counts s ≡ tally n (of_service i s (has_moved a0)) a

-- each number has grown by one if process p is of its service and isn't on its initial machine
pub record AddsMoved (i : Tables) (a0 a : List Machine) (p : ℕ) (old new : List ℕ) : Type 0 where
  pub each : (s : ℕ)
      → slice_index new s ≡ slice_index old s + of_service i s (has_moved a0) p (machine_at a p)

-- each number is below a bound
pub record AreBelow (bound : ℕ) (counts : List ℕ) : Type 0 where
  pub each : (s : ℕ) → slice_index counts s < bound
