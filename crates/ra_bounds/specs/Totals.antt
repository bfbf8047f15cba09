-- Lists with one sum for each resource.
use Rattle.std.specs.Prelude.{◌≡◌, ℕ, ◌+◌, ◌<◌, ◌≤◌, List, slice_index_or}
use Rattle.ra_base.specs.Sums.{total}
use Rattle.ra_model.specs.declared.raw.Tables.{Tables}
use Rattle.ra_model.specs.Numbers.{resource_count, machine_count, process_count, capacity_of, safety_of, requirement_of}

-- for each of the columns the sum of f over the first n rows
pub record AreTotals (columns n : ℕ) (f : ℕ → ℕ → ℕ) (sums : List ℕ) : Type 0 where
  pub each : (r : ℕ) → r < columns → slice_index_or sums r 0 ≡ total n (λ k. f k r)

-- the sums of f over the first n rows, and over row n too in the columns below r
pub record ArePartTotals (columns n r : ℕ) (f : ℕ → ℕ → ℕ) (sums : List ℕ) : Type 0 where
  pub done : (j : ℕ) → j < columns → j < r → slice_index_or sums j 0 ≡ total (n + 1) (λ k. f k j)
  pub to_come : (j : ℕ) → j < columns → r ≤ j → slice_index_or sums j 0 ≡ total n (λ k. f k j)

-- what all processes require of each resource
abbrev pub AreRequirementSums : Tables → List ℕ → Type 0
AreRequirementSums i sums = AreTotals (resource_count i) (process_count i) (requirement_of i) sums

-- the safety capacity of all machines for each resource
abbrev pub AreSafeties : Tables → List ℕ → Type 0
AreSafeties i sums = AreTotals (resource_count i) (machine_count i) (safety_of i) sums

-- the capacity of all machines for each resource
abbrev pub AreCapacities : Tables → List ℕ → Type 0
AreCapacities i sums = AreTotals (resource_count i) (machine_count i) (capacity_of i) sums
