-- Places instead of labels: for each machine the first machine with the same label.
use Rattle.std.specs.Prelude.{◌≡◌, ℕ, ◌<◌, ◌≤◌, List, length}
use Rattle.ra_base.specs.declared.ids.Machine.{Machine}
use Rattle.ra_model.specs.declared.labels.Label.{Label}
use Rattle.ra_model.specs.declared.labels.Label.TheVariants.{Location, Neighbourhood}
use Rattle.ra_model.specs.declared.raw.Tables.{Tables}
use Rattle.ra_model.specs.Numbers.{machine_count, neighbourhood_of, location_of}
use Rattle.ra_model.specs.Assignments.{machine_at}
use Rattle.ra_model.specs.PlaceLists.{PlaceLists}

-- k is the first machine with the label of machine m
pub record IsFirstLike (label : ℕ → ℕ) (m k : ℕ) : Type 0 where
  pub alike : label k ≡ label m
  pub first : (j : ℕ) → label j ≡ label m → k ≤ j

-- for each of n machines the first one with its label
pub record AreFirst (label : ℕ → ℕ) (n : ℕ) (places : List Machine) : Type 0 where
  pub one_each : length places ≡ n
  pub each : (m : ℕ) → m < n → IsFirstLike label m (machine_at places m)

-- the places of the machines of an instance, by location and by neighbourhood
pub record ArePlaces (places : PlaceLists) (i : Tables) : Type 0 where
  pub locations : AreFirst (location_of i) (machine_count i) places.locations
  pub neighbourhoods : AreFirst (neighbourhood_of i) (machine_count i) places.neighbourhoods

-- one of the two labels of machine m
unfoldable pub label_of : Tables → Label → ℕ → ℕ
label_of i Location m = location_of i m
label_of i Neighbourhood m = neighbourhood_of i m
