-- The numbers of a model file as lists, each under the name that the instance gives it.
use Rattle.std.specs.Prelude.{ℕ, Bool, List, map}
use Rattle.ra_base.specs.declared.ids.Resource.{Resource}
use Rattle.ra_base.specs.declared.ids.Service.{Service}
use Rattle.ra_model.specs.declared.raw.BalanceRow.{BalanceRow}
use Rattle.ra_model.specs.declared.raw.MachineRow.{MachineRow}
use Rattle.ra_model.specs.declared.raw.ProcessRow.{ProcessRow}
use Rattle.ra_model.specs.declared.raw.RawInstance.{RawInstance}
use Rattle.ra_model.specs.declared.raw.ResourceRow.{ResourceRow}
use Rattle.ra_model.specs.declared.raw.ServiceRow.{ServiceRow}

pub record ResourceNumbers : Type 0 where
  pub transient : Bool
  pub load_weight : ℕ

pub record MachineNumbers : Type 0 where
  pub neighbourhood : ℕ
  pub location : ℕ

-- a service's dependencies are in one list for all services, and end before this place
pub record ServiceNumbers : Type 0 where
  pub spread_min : ℕ
  pub dependency_end : ℕ

pub record ProcessNumbers : Type 0 where
  pub service : Service
  pub move_cost : ℕ

pub record BalanceNumbers : Type 0 where
  pub first : Resource
  pub second : Resource
  pub target : ℕ
  pub weight : ℕ

pub record MachineLists : Type 0 where
  pub rows : List MachineNumbers
  pub capacities : List ℕ
  pub safeties : List ℕ
  pub move_costs : List ℕ

pub record ServiceLists : Type 0 where
  pub rows : List ServiceNumbers
  pub dependencies : List Service

pub record ProcessLists : Type 0 where
  pub rows : List ProcessNumbers
  pub requirements : List ℕ

pub record Weights : Type 0 where
  pub process : ℕ
  pub service : ℕ
  pub machine : ℕ

-- what follows the services
pub record Rest : Type 0 where
  pub processes : ProcessLists
  pub balances : List BalanceNumbers
  pub weights : Weights

pub record Lists : Type 0 where
  pub resources : List ResourceNumbers
  pub machines : MachineLists
  pub services : ServiceLists
  pub processes : ProcessLists
  pub balances : List BalanceNumbers
  pub weights : Weights

-- the numbers in the rows of an instance

abbrev pub of_resource : ResourceRow → ResourceNumbers
of_resource row = record { transient = row.transient; load_weight = row.load_weight }

abbrev pub of_machine : MachineRow → MachineNumbers
of_machine row = record { neighbourhood = row.neighbourhood; location = row.location }

abbrev pub service_numbers_of : ServiceRow → ServiceNumbers
service_numbers_of row = record { spread_min = row.spread_min; dependency_end = row.dependency_end }

abbrev pub of_process : ProcessRow → ProcessNumbers
of_process row = record { service = row.service; move_cost = row.move_cost }

abbrev pub of_balance : BalanceRow → BalanceNumbers
of_balance row =
    record { first = row.first; second = row.second; target = row.target; weight = row.weight }

-- the lists of an instance
abbrev pub lists_of : RawInstance → Lists
lists_of raw = record {
  resources = map of_resource raw.resources.items;
  machines = record {
    rows = map of_machine raw.machines.items;
    capacities = raw.capacities.items;
    safeties = raw.safeties.items;
    move_costs = raw.move_costs.items;
  };
  services =
      record { rows = map service_numbers_of raw.services.items; dependencies = raw.dependencies.items };
  processes =
      record { rows = map of_process raw.processes.items; requirements = raw.requirements.items };
  balances = map of_balance raw.balances.items;
  weights = record {
    process = raw.process_weight;
    service = raw.service_weight;
    machine = raw.machine_weight;
  };
}
