-- What a topology is made for.
use Rattle.std.specs.Prelude.{◌≡◌, ℕ, ◌<◌, List, length}
use Rattle.ra_base.specs.declared.ids.Service.{Service}
use Rattle.ra_model.specs.declared.raw.Tables.{Tables}
use Rattle.ra_model.specs.Numbers.{service_count}
use Rattle.ra_model.specs.Members.{AreMembers}
use Rattle.ra_topology.specs.TopologyLists.{TopologyLists}
use Rattle.ra_topology.specs.Lists.{services_of, AreNeedsOf, AreDistinctNeedsOf, AreDependantsOf}

-- the needs of each service
pub record AreNeeds (needs : List (List Service)) (i : Tables) : Type 0 where
  pub one_each : length needs ≡ service_count i
  pub each : (s : ℕ) → s < service_count i → AreNeedsOf i s (services_of needs s)

-- the needs of each service, each service once
pub record AreDistinctNeeds (needs : List (List Service)) (i : Tables) : Type 0 where
  pub one_each : length needs ≡ service_count i
  pub each : (s : ℕ) → s < service_count i → AreDistinctNeedsOf i s (services_of needs s)

-- the dependants of each service
pub record AreDependants (dependants : List (List Service)) (i : Tables) : Type 0 where
  pub one_each : length dependants ≡ service_count i
  pub each : (s : ℕ) → s < service_count i → AreDependantsOf i s (services_of dependants s)

-- a topology fits an instance: its members, needs, distinct needs and dependants are those of the instance
pub record IsTopologyOf (topology : TopologyLists) (i : Tables) : Type 0 where
  pub members : AreMembers topology.members i
  pub needs : AreNeeds topology.needs i
  pub distinct : AreDistinctNeeds topology.distinct i
  pub dependants : AreDependants topology.dependants i
