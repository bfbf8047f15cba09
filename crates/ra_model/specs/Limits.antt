-- The limits of an instance.
use Rattle.std.specs.Prelude.{◌≡◌, ℕ, ◌*◌, ◌^◌, ◌<◌, ◌≤◌, List, length, slice_index_or, IfSome}
use Rattle.ra_model.specs.declared.raw.Tables.{Tables}
use Rattle.ra_model.specs.Numbers.{resource_count, machine_count, service_count, process_count, balance_count}
use Rattle.ra_model.specs.Numbers.{load_weight_of, neighbourhood_of, location_of, capacity_of, safety_of, way_cost_of}
use Rattle.ra_model.specs.Numbers.{spread_of, dependency_end, dependency_start, need_at, service_of, requirement_of}
use Rattle.ra_model.specs.Numbers.{process_cost_of, first_of, second_of, target_of, balance_weight_of}
use Rattle.ra_model.specs.Numbers.{process_weight_of, service_weight_of, machine_weight_of}

-- the most resources, machines, services, processes, balance objectives and dependencies of an instance
abbrev pub most_resources : ℕ
most_resources = 20

abbrev pub most_machines : ℕ
most_machines = 5000

abbrev pub most_services : ℕ
most_services = 50000

abbrev pub most_processes : ℕ
most_processes = 50000

abbrev pub most_balances : ℕ
most_balances = 10

abbrev pub most_dependencies : ℕ
most_dependencies = 100000

-- the tables have the lengths that the counts ask for, the counts are within the limits, and the
-- services, machines and resources that are named exist
pub record WellFormed (i : Tables) : Type 0 where
  pub some_resource : 1 ≤ resource_count i
  pub few_resources : resource_count i ≤ most_resources
  pub some_machine : 1 ≤ machine_count i
  pub few_machines : machine_count i ≤ most_machines
  pub some_service : 1 ≤ service_count i
  pub few_services : service_count i ≤ most_services
  pub some_process : 1 ≤ process_count i
  pub few_processes : process_count i ≤ most_processes
  pub few_balances : balance_count i ≤ most_balances
  pub few_dependencies : length i.raw.dependencies.items ≤ most_dependencies
  pub capacities : length i.raw.capacities.items ≡ machine_count i * resource_count i
  pub safeties : length i.raw.safeties.items ≡ machine_count i * resource_count i
  pub way_costs : length i.raw.move_costs.items ≡ machine_count i * machine_count i
  pub requirements : length i.raw.requirements.items ≡ process_count i * resource_count i
  pub in_order : (s : ℕ) → s < service_count i → dependency_start i s ≤ dependency_end i s
  pub within : (s : ℕ) → s < service_count i → dependency_end i s ≤ length i.raw.dependencies.items
  pub all_owned : dependency_start i (service_count i) ≡ length i.raw.dependencies.items
  pub needs : (place : ℕ) → place < length i.raw.dependencies.items
      → need_at i place < service_count i
  pub services : (p : ℕ) → p < process_count i → service_of i p < service_count i
  pub firsts : (b : ℕ) → b < balance_count i → first_of i b < resource_count i
  pub seconds : (b : ℕ) → b < balance_count i → second_of i b < resource_count i

-- every number of the file is below 2^32
pub record Small (i : Tables) : Type 0 where
  pub load_weights : (r : ℕ) → load_weight_of i r < 2 ^ 32
  pub neighbourhoods : (m : ℕ) → neighbourhood_of i m < 2 ^ 32
  pub locations : (m : ℕ) → location_of i m < 2 ^ 32
  pub capacities : (m r : ℕ) → capacity_of i m r < 2 ^ 32
  pub safeties : (m r : ℕ) → safety_of i m r < 2 ^ 32
  pub way_costs : (from to : ℕ) → way_cost_of i from to < 2 ^ 32
  pub spreads : (s : ℕ) → spread_of i s < 2 ^ 32
  pub dependency_ends : (s : ℕ) → dependency_end i s < 2 ^ 32
  pub requirements : (p r : ℕ) → requirement_of i p r < 2 ^ 32
  pub process_costs : (p : ℕ) → process_cost_of i p < 2 ^ 32
  pub targets : (b : ℕ) → target_of i b < 2 ^ 32
  pub balance_weights : (b : ℕ) → balance_weight_of i b < 2 ^ 32
  pub process_weight : process_weight_of i < 2 ^ 32
  pub service_weight : service_weight_of i < 2 ^ 32
  pub machine_weight : machine_weight_of i < 2 ^ 32

-- a flag for each machine, unless the flags are left out
abbrev pub HasMachineFlags : Tables → Type 0
HasMachineFlags i = IfSome i.closed (λ flags. length flags.items ≡ machine_count i)

-- each number of a table is below 2^32
pub record IsSmallTable (table : List ℕ) : Type 0 where
  pub each : (k : ℕ) → slice_index_or table k 0 < 2 ^ 32
