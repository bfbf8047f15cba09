-- The lengths and references of tables that are read row by row.
use Rattle.std.specs.Prelude.{◌≡◌, ℕ, zero, suc, ◌*◌, ◌<◌, ◌≤◌, List, length, map, slice_index_or}
use Rattle.std.proofs.Common.{lit<}
use Rattle.ra_base.specs.Listed.{Listed}
use Rattle.ra_base.specs.declared.ids.Service.{Service}
use Rattle.ra_model.specs.declared.raw.ServiceRow.{ServiceRow}
use Rattle.ra_model.specs.declared.raw.ProcessRow.{ProcessRow}
use Rattle.ra_model.specs.declared.raw.BalanceRow.{BalanceRow}
use Rattle.ra_model_read.specs.declared.tables.MachineTables.{MachineTables}
use Rattle.ra_model_read.specs.declared.tables.ServiceTables.{ServiceTables}
use Rattle.ra_model_read.specs.declared.tables.ProcessTables.{ProcessTables}
use Rattle.ra_model_read.specs.declared.tables.RestTables.{RestTables}
use Rattle.ra_model_read.specs.declared.tables.WeightNumbers.{WeightNumbers}
use Rattle.ra_model_read.specs.Lists.{MachineLists, ServiceLists, ProcessLists, Weights, Rest, of_machine}
use Rattle.ra_model_read.specs.Lists.{service_numbers_of}
use Rattle.ra_model_read.specs.Lists.{of_process, of_balance}

-- the lists of the tables

abbrev pub machine_lists : MachineTables → MachineLists
machine_lists t =
    record {
      rows = map of_machine t.rows.items;
      capacities = t.capacities.items;
      safeties = t.safeties.items;
      move_costs = t.move_costs.items;
    }

abbrev pub service_lists : ServiceTables → ServiceLists
service_lists t = record { rows = map service_numbers_of t.rows.items; dependencies = t.dependencies.items }

abbrev pub process_lists : ProcessTables → ProcessLists
process_lists t = record { rows = map of_process t.rows.items; requirements = t.requirements.items }

abbrev pub weight_numbers : WeightNumbers → Weights
weight_numbers w = record { process = w.process; service = w.service; machine = w.machine }

abbrev pub rest_lists : RestTables → Rest
rest_lists t =
    record {
      processes = process_lists t.processes;
      balances = map of_balance t.balances.items;
      weights = weight_numbers t.weights;
    }

-- rows of zeros, which are used past the last row

abbrev pub zero_service : ServiceRow
zero_service =
    record { spread_min = 0; dependency_end = 0; small_spread = lit< tt; small_end = lit< tt }

abbrev pub zero_process : ProcessRow
zero_process = record { service = record { 0 = 0 }; move_cost = 0; small = lit< tt }

abbrev pub zero_balance : BalanceRow
zero_balance = record {
  first = record { 0 = 0 };
  second = record { 0 = 0 };
  target = 0;
  weight = 0;
  small_target = lit< tt;
  small_weight = lit< tt;
}

-- m machines of M were read, for R resources; M and R are within their limits
pub record HasMachines (R M m : ℕ) (t : MachineTables) : Type 0 where
  pub few_resources : R ≤ 20
  pub few : M ≤ 5000
  pub rows : length t.rows.items ≡ m
  pub capacities : length t.capacities.items ≡ m * R
  pub safeties : length t.safeties.items ≡ m * R
  pub move_costs : length t.move_costs.items ≡ m * M
  pub rows_room : t.rows.room ≡ M
  pub capacities_room : t.capacities.room ≡ M * R
  pub safeties_room : t.safeties.room ≡ M * R
  pub move_costs_room : t.move_costs.room ≡ M * M

-- where the dependencies of service s end, and where they start
unfoldable pub dependency_end_in : List ServiceRow → ℕ → ℕ
dependency_end_in rows s = (slice_index_or rows s zero_service).dependency_end

unfoldable pub dependency_start_in : List ServiceRow → ℕ → ℕ
dependency_start_in rows zero = 0
dependency_start_in rows (suc s) = dependency_end_in rows s

unfoldable pub needed_in : List Service → ℕ → ℕ
needed_in dependencies place = (slice_index_or dependencies place (record { 0 = 0 })).0

-- all these dependencies are on one of S services
pub record AreServices (S : ℕ) (dependencies : List Service) : Type 0 where
  pub each : (place : ℕ) → place < length dependencies → needed_in dependencies place < S

-- dependencies on S services were read, and there is room for as many as all services may have
pub record HasDependencies (S : ℕ) (dependencies : Listed Service) : Type 0 where
  pub room : dependencies.room ≡ 100000
  pub few : length dependencies.items ≤ 100000
  pub needs : AreServices S dependencies.items

-- s services of S were read, with their dependencies
pub record HasServices (S s : ℕ) (t : ServiceTables) : Type 0 where
  pub rows : length t.rows.items ≡ s
  pub rows_room : t.rows.room ≡ S
  pub dependencies : HasDependencies S t.dependencies
  pub in_order : (k : ℕ) → k < s → dependency_start_in t.rows.items k ≤ dependency_end_in t.rows.items k
  pub within : (k : ℕ) → k < s → dependency_end_in t.rows.items k ≤ length t.dependencies.items
  pub all_owned : dependency_start_in t.rows.items s ≡ length t.dependencies.items

unfoldable pub row_service_in : List ProcessRow → ℕ → ℕ
row_service_in rows p = (slice_index_or rows p zero_process).service.0

-- p processes of P were read, of S services and for R resources; P and R are within their limits
pub record HasProcesses (S R P p : ℕ) (t : ProcessTables) : Type 0 where
  pub few_resources : R ≤ 20
  pub few : P ≤ 50000
  pub rows : length t.rows.items ≡ p
  pub requirements : length t.requirements.items ≡ p * R
  pub rows_room : t.rows.room ≡ P
  pub requirements_room : t.requirements.room ≡ P * R
  pub services : (k : ℕ) → k < p → row_service_in t.rows.items k < S

unfoldable pub first_in : List BalanceRow → ℕ → ℕ
first_in rows b = (slice_index_or rows b zero_balance).first.0

unfoldable pub second_in : List BalanceRow → ℕ → ℕ
second_in rows b = (slice_index_or rows b zero_balance).second.0

-- both resources of each objective are among R
pub record AreBalances (R : ℕ) (rows : List BalanceRow) : Type 0 where
  pub firsts : (b : ℕ) → b < length rows → first_in rows b < R
  pub seconds : (b : ℕ) → b < length rows → second_in rows b < R

-- b balance objectives were read, on R resources
pub record HasBalances (R b : ℕ) (t : Listed BalanceRow) : Type 0 where
  pub rows : length t.items ≡ b
  pub among : AreBalances R t.items

-- all machines were read, and their count is within its limits
pub record IsMachines (R : ℕ) (t : MachineTables) : Type 0 where
  pub some : 1 ≤ length t.rows.items
  pub has : HasMachines R (length t.rows.items) (length t.rows.items) t

pub record IsServices (t : ServiceTables) : Type 0 where
  pub some : 1 ≤ length t.rows.items
  pub few : length t.rows.items ≤ 50000
  pub has : HasServices (length t.rows.items) (length t.rows.items) t

pub record IsProcesses (S R : ℕ) (t : ProcessTables) : Type 0 where
  pub some : 1 ≤ length t.rows.items
  pub has : HasProcesses S R (length t.rows.items) (length t.rows.items) t

-- what follows the services was read
pub record IsRest (S R : ℕ) (t : RestTables) : Type 0 where
  pub processes : IsProcesses S R t.processes
  pub few : length t.balances.items ≤ 10
  pub among : AreBalances R t.balances.items
