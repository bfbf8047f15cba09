-- What doesn't depend on the machine to which process p goes (this project's).
use Rattle.std.specs.Prelude.{◌≡◌, ℕ, ◌+◌, ◌-◌, ◌*◌, ◌<◌, ◌==◌, List, length, slice_index}
use Rattle.ra_base.specs.Sums.{one_if}
use Rattle.ra_base.specs.declared.ids.Machine.{Machine}
use Rattle.ra_model.specs.declared.raw.Tables.{Tables}
use Rattle.ra_model.specs.Numbers.{resource_count, service_of, requirement_of, location_of, first_of, second_of, target_of, process_weight_of, machine_weight_of}
use Rattle.ra_model.specs.Assignments.{machine_at}
use Rattle.ra_model.specs.Usage.{use_of}
use Rattle.ra_model.specs.Services.{in_location, locations_of}
use Rattle.ra_model.specs.Costs.{process_share, way_share}
use Rattle.ra_shift.specs.declared.filter.Asked.{Asked}
use Rattle.ra_model.specs.MachineCosts.{row_load, row_balance, machine_load, machine_balance}

-- what p requires of each resource, and of nothing more
pub record AreRequired (i : Tables) (p : ℕ) (numbers : List ℕ) : Type 0 where
  pub width : length numbers ≡ resource_count i
  pub each : (r : ℕ) → r < resource_count i → slice_index numbers r ≡ requirement_of i p r

-- what p asks for by objective b: what it requires of the first resource, times the target, and what it takes of the second
pub record HasAsked (i : Tables) (p b : ℕ) (asked : Asked) : Type 0 where
  pub wanted : asked.wanted ≡ target_of i b * requirement_of i p (first_of i b)
  pub taken : asked.taken ≡ requirement_of i p (second_of i b)

-- the use of the machine of p without p, and of a machine with p
unfoldable pub use_without : Tables → List Machine → ℕ → ℕ → ℕ
use_without i a p r = use_of i a (machine_at a p) r - requirement_of i p r

unfoldable pub use_with : Tables → List Machine → ℕ → ℕ → ℕ → ℕ
use_with i a p to r = use_of i a to r + requirement_of i p r

-- the load cost and the balance cost of a machine with this use
unfoldable pub row_cost_with : Tables → ℕ → (ℕ → ℕ) → ℕ
row_cost_with i m u = row_load i m u + row_balance i m u

-- the load cost and the balance cost of machine m as it is
unfoldable pub cost_of : Tables → List Machine → ℕ → ℕ
cost_of i a m = machine_load i a m + machine_balance i a m

-- the process cost and the machine cost of p on machine `at`, with their weights
unfoldable pub way_cost : Tables → List Machine → ℕ → ℕ → ℕ
way_cost i a0 p at =
    process_weight_of i * process_share i a0 p at + machine_weight_of i * way_share i a0 p at

-- in how many locations there is another process of p's service
unfoldable pub locations_without : Tables → List Machine → ℕ → ℕ
locations_without i a p =
    locations_of i a (service_of i p) - one_if
    (in_location i a (service_of i p) (location_of i (machine_at a p)) == 1)
