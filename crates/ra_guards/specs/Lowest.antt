-- The least number of those guards of a group that have a version above a place.
use Rattle.std.specs.Prelude.{◌≡◌, ℕ, ◌+◌, ◌≤◌, ◌<◌, Bool, true, false, nat_lt, if◌then◌else◌, min, List, ◌⊎◌}
use Rattle.ra_base.specs.declared.ids.Guard.{Guard}
use Rattle.ra_base.specs.declared.ids.Guard.TheVariants as guard
use Rattle.ra_base.specs.declared.ids.Service.{Service as Named}
use Rattle.ra_model.specs.declared.raw.Tables.{Tables}
use Rattle.ra_model.specs.Numbers.{machine_count, service_count}
use Rattle.ra_model.specs.Relations.{are_joined}
use Rattle.ra_moves.specs.declared.steps.Step.{Step}
use Rattle.ra_moves.specs.Steps.{from_in, to_in}
use Rattle.ra_topology.specs.Lists.{service_at}
use Rattle.ra_moves.specs.Touched.{service_in}
use Rattle.ra_guards.specs.Guards.{writes}
use Rattle.ra_guards.specs.Order.{IsKnown, number_in, guard_of}

-- the number of the first guard of the instance that passes a test and has a version above q, and the number of all its
-- guards if there is none
pub record IsFirstNumber (i : Tables) (test : Guard → Bool) (v : Guard → ℕ) (q n : ℕ) : Type 0 where
  pub within : n ≤ machine_count i + service_count i
  pub least : (g : Guard) → IsKnown i g → test g ≡ true → q < v g
      → n ≤ number_in (machine_count i) g
  pub passes : n < machine_count i + service_count i → test (guard_of (machine_count i) n) ≡ true
  pub newer : n < machine_count i + service_count i → q < v (guard_of (machine_count i) n)

-- a number is the least of `before` and the numbers of the guards of a group with a version above q
pub record IsLower (i : Tables) (v : Guard → ℕ) (q : ℕ) (among : Guard → Type 0) (before n : ℕ) :
    Type 0 where
  pub below : n ≤ before
  pub each : (g : Guard) → among g → q < v g → n ≤ number_in (machine_count i) g
  pub from :
      (n ≡ before) ⊎
      ((g : Guard) × among g × IsKnown i g × (q < v g) × (n ≡ number_in (machine_count i) g))

-- the lesser of two numbers, if the version of the second is above q
unfoldable pub lowered : ℕ → ℕ → ℕ → ℕ → ℕ
lowered version q n before = if nat_lt q version then min before n else before

-- the guard is service s, and no write guard
abbrev pub IsReadOf : Tables → List Step → ℕ → Guard → Type 0
IsReadOf i steps s g = (writes i steps g ≡ false) × (g ≡ guard.Service (record { 0 = s }))

-- the guard is one of the first n services of a list, and no write guard
abbrev pub IsReadIn : Tables → List Step → List Named → ℕ → Guard → Type 0
IsReadIn i steps services n g = (k : ℕ) × (k < n) × IsReadOf i steps (service_at services k) g

-- the guard is a service that is joined with service s, and no write guard
abbrev pub IsReadBy : Tables → List Step → ℕ → Guard → Type 0
IsReadBy i steps s g =
    (u : ℕ) × (u < service_count i) × (are_joined i s u ≡ true) × IsReadOf i steps u g

-- the guard is joined with the service of one of the first n steps, and no write guard
abbrev pub IsReadBelow : Tables → List Step → ℕ → Guard → Type 0
IsReadBelow i steps n g = (k : ℕ) × (k < n) × IsReadBy i steps (service_in i steps k) g

-- step k writes the guard
abbrev pub IsWrittenBy : Tables → List Step → ℕ → Guard → Type 0
IsWrittenBy i steps k g =
    (g ≡ guard.Machine (record { 0 = from_in steps k }))
    ⊎ ((g ≡ guard.Machine (record { 0 = to_in steps k }))
    ⊎ (g ≡ guard.Service (record { 0 = service_in i steps k })))

-- one of the first n steps writes the guard
abbrev pub IsWrittenBelow : Tables → List Step → ℕ → Guard → Type 0
IsWrittenBelow i steps n g = (k : ℕ) × (k < n) × IsWrittenBy i steps k g
