-- A list of costs, machine by machine.
use Rattle.std.specs.Prelude.{◌≡◌, ℕ, ◌<◌, List, length, slice_index}
use Rattle.ra_model.specs.declared.raw.Tables.{Tables}
use Rattle.ra_model.specs.Numbers.{machine_count, way_cost_of}

-- one cost for each of n machines
pub record AreCosts (costs : List ℕ) (n : ℕ) (f : ℕ → ℕ) : Type 0 where
  pub one_each : length costs ≡ n
  pub each : (m : ℕ) → m < n → slice_index costs m ≡ f m

-- for each machine, what the way from it to itself costs
abbrev pub AreStays : Tables → List ℕ → Type 0
AreStays i stays = AreCosts stays (machine_count i) (λ m. way_cost_of i m m)
