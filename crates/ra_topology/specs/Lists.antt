-- The services on which a service depends, and those that depend on it.
use Rattle.std.specs.Prelude.{◌≡◌, ◌≢◌, ℕ, ◌<◌, ◌≤◌, Bool, List, [], length, map, slice_index_or}
use Rattle.ra_base.specs.Sums.{pick, is_named}
use Rattle.ra_base.specs.declared.ids.Service.{Service}
use Rattle.ra_model.specs.declared.raw.Tables.{Tables}
use Rattle.ra_model.specs.Numbers.{service_count, dependency_count, need_of}
use Rattle.ra_model.specs.Relations.{depends}

-- the numbers of some services
abbrev pub numbers_of : List Service → List ℕ
numbers_of services = map (λ s. s.0) services

-- the number of service k of a list
unfoldable pub service_at : List Service → ℕ → ℕ
service_at services k = (slice_index_or services k (record { 0 = 0 })).0

-- the list of service s
unfoldable pub services_of : List (List Service) → ℕ → List Service
services_of lists s = slice_index_or lists s []

-- service u depends on service s
unfoldable pub is_dependant : Tables → ℕ → ℕ → Bool
is_dependant i s u = depends i u s

-- the services on which service s depends, in file order
pub record AreNeedsOf (i : Tables) (s : ℕ) (services : List Service) : Type 0 where
  pub one_each : length services ≡ dependency_count i s
  pub each : (k : ℕ) → k < dependency_count i s → service_at services k ≡ need_of i s k

-- exactly the services that depend on service s, in ascending order
pub record AreDependantsOf (i : Tables) (s : ℕ) (services : List Service) : Type 0 where
  pub numbers : numbers_of services ≡ pick (service_count i) (is_dependant i s)

-- exactly the services that the first k dependencies of service s name, each once
pub record AreDistinct (i : Tables) (s k : ℕ) (services : List Service) : Type 0 where
  pub same : (u : ℕ) → is_named (length services) (service_at services) u
      ≡ is_named k (need_of i s) u
  pub once : (j l : ℕ) → j < l → l < length services
      → service_at services j ≢ service_at services l
  pub few : length services ≤ k

-- exactly the services on which service s depends, each once
abbrev pub AreDistinctNeedsOf : Tables → ℕ → List Service → Type 0
AreDistinctNeedsOf i s services = AreDistinct i s (dependency_count i s) services
