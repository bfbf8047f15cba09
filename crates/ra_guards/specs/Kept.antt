-- Versions that are kept in a table, entry after entry.
use Rattle.std.specs.Prelude.{◌≡◌, ◌≢◌, ℕ, ◌<◌, ◌≤◌, List, length, Option, slice_index_or, Contains}
use Rattle.ra_base.specs.declared.ids.Guard.{Guard}
use Rattle.ra_base.specs.declared.ids.Guard.TheVariants as guard
use Rattle.ra_model.specs.declared.raw.Tables.{Tables}
use Rattle.ra_model.specs.Numbers.{machine_count, service_count}
use Rattle.ra_moves.specs.declared.steps.Step.{Step}
use Rattle.ra_guards.specs.Order.{IsKnown}
use Rattle.ra_guards.specs.Versions.{version}
use Rattle.ra_guards.specs.VersionTable.{VersionTable}

-- the table has the guard
unfoldable pub HasGuard : VersionTable → Guard → Type 0
HasGuard v (guard.Machine m) = m.0 < length v.machines
HasGuard v (guard.Service s) = s.0 < length v.services

-- the version of a guard in a table, and 0 if the table doesn't have it
unfoldable pub version_in : VersionTable → Guard → ℕ
version_in v (guard.Machine m) = slice_index_or v.machines m.0 0
version_in v (guard.Service s) = slice_index_or v.services s.0 0

-- no guard has a version above n
abbrev pub AreAtMost : ℕ → VersionTable → Type 0
AreAtMost n v = (g : Guard) → version_in v g ≤ n

-- a table for these numbers of machines and services, with each version 0
pub record AreZero (machines services : ℕ) (v : VersionTable) : Type 0 where
  pub count_machines : length v.machines ≡ machines
  pub count_services : length v.services ≡ services
  pub each : (g : Guard) → version_in v g ≡ 0

-- a table for the machines and services of an instance
pub record IsTableOf (i : Tables) (v : VersionTable) : Type 0 where
  pub machines : length v.machines ≡ machine_count i
  pub services : length v.services ≡ service_count i

-- a table has the versions after the first n entries
pub record AreVersions (i : Tables) (made : List (Option (List Step))) (n : ℕ) (v : VersionTable) :
    Type 0 where
  pub sized : IsTableOf i v
  pub each : (g : Guard) → IsKnown i g → version_in v g ≡ version i made n g

-- a table after a guard was set, and after all guards of a list were
pub record IsSet (before after : VersionTable) (guard : Guard) (version : ℕ) : Type 0 where
  pub machines : length after.machines ≡ length before.machines
  pub services : length after.services ≡ length before.services
  pub set : version_in after guard ≡ version
  pub kept : (g : Guard) → g ≢ guard → version_in after g ≡ version_in before g

pub record IsTouched (before after : VersionTable) (guards : List Guard) (version : ℕ) : Type 0
  where
    pub machines : length after.machines ≡ length before.machines
    pub services : length after.services ≡ length before.services
    pub touched : (g : Guard) → Contains guards g → version_in after g ≡ version
    pub kept : (g : Guard) → (Contains guards g → ⊥) → version_in after g ≡ version_in before g
