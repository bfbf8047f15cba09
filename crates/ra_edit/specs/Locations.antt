-- In how many locations the processes of each service are.
use Rattle.std.specs.Prelude.{◌≡◌, ℕ, ◌^◌, ◌<◌, nat_lt, length, slice_index}
use Rattle.ra_base.specs.Sums.{count}
use Rattle.ra_edit.specs.declared.counts.Counts.{Counts}
use Rattle.ra_edit.specs.declared.locations.Locations.{Locations}
use Rattle.ra_edit.specs.Counts.{count_in}

-- at how many labels a process of service s is counted
abbrev pub labels_in : Counts → ℕ → ℕ
labels_in counts s = count (2 ^ 32) (λ label. nat_lt 0 (count_in counts s label))

-- the kept numbers are those of this number of services
pub record AreNumbered (services : ℕ) (locations : Locations) : Type 0 where
  pub one_each : length locations.numbers.items ≡ services
  pub each : (s : ℕ) → s < services
      → slice_index locations.numbers.items s ≡ labels_in locations.counts s
