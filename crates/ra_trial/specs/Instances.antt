-- The instance of a trial: its numbers as the lists of a model file.
use Rattle.std.specs.Prelude.{◌≡◌, ℕ, ◌+◌, ◌*◌, ◌/◌, ◌%◌, ◌==◌, List, [], ◌∷◌, None}
use Rattle.ra_base.specs.declared.ids.Machine.{Machine}
use Rattle.ra_base.specs.declared.ids.Service.{Service}
use Rattle.ra_model.specs.declared.raw.Tables.{Tables}
use Rattle.ra_model_read.specs.Lists.{ResourceNumbers, MachineNumbers, ServiceNumbers, ProcessNumbers, BalanceNumbers}
use Rattle.ra_model_read.specs.Lists.{MachineLists, ServiceLists, ProcessLists, Lists, lists_of}
use Rattle.ra_trial.specs.Lines.{listed}
use Rattle.ra_trial.specs.Numbers.{trial_requirement_of, trial_process_cost_of, trial_capacity_of, trial_safety_of}
use Rattle.ra_trial.specs.Numbers.{trial_way_cost_of, trial_spread_of}
use Rattle.ra_trial.specs.Trials.{start_machine}

-- a table in one list, row after row: f row column
unfoldable pub table_of : ℕ → ℕ → (ℕ → ℕ → ℕ) → List ℕ
table_of rows width f = listed (rows * width) (λ k. f (k / width) (k % width))

-- a resource: only resource 0 is transient
unfoldable pub trial_resource : ℕ → ResourceNumbers
trial_resource r = record { transient = r == 0; load_weight = 10 }

-- a machine: its neighbourhood, of 20 machines, and its location, of 10
unfoldable pub trial_machine : ℕ → MachineNumbers
trial_machine m = record { neighbourhood = m / 20; location = m % 10 }

unfoldable pub trial_machines : (ℕ → ℕ) → MachineLists
trial_machines g = record {
  rows = listed 100 trial_machine;
  capacities = table_of 100 4 (trial_capacity_of g);
  safeties = table_of 100 4 (trial_safety_of g);
  move_costs = table_of 100 100 trial_way_cost_of;
}

-- a service: its spread; each fifth one has a dependency, so that s / 5 + 1 have ended with service s
unfoldable pub trial_service : (ℕ → ℕ) → ℕ → ServiceNumbers
trial_service g s = record { spread_min = trial_spread_of g s; dependency_end = s / 5 + 1 }

-- dependency k of all, which is that of service 5 * k: the service 25 numbers on
unfoldable pub trial_need : ℕ → Service
trial_need k = record { 0 = (5 * k + 25) % 250 }

unfoldable pub trial_services : (ℕ → ℕ) → ServiceLists
trial_services g =
    record { rows = listed 250 (trial_service g); dependencies = listed 50 trial_need }

-- a process: its service, of four processes, and its move cost
unfoldable pub trial_process : (ℕ → ℕ) → ℕ → ProcessNumbers
trial_process g p = record { service = record { 0 = p / 4 }; move_cost = trial_process_cost_of g p }

unfoldable pub trial_processes : (ℕ → ℕ) → ProcessLists
trial_processes g =
    record {
      rows = listed 1000 (trial_process g);
      requirements = table_of 1000 4 (trial_requirement_of g);
    }

-- the one balance objective: resources 0 and 1, target 2, weight 10
unfoldable pub trial_balance : BalanceNumbers
trial_balance =
    record { first = record { 0 = 0 }; second = record { 0 = 1 }; target = 2; weight = 10 }

-- all lists of the trial of words g
unfoldable pub trial_lists : (ℕ → ℕ) → Lists
trial_lists g = record {
  resources = listed 4 trial_resource;
  machines = trial_machines g;
  services = trial_services g;
  processes = trial_processes g;
  balances = trial_balance ∷ [];
  weights = record { process = 1; service = 10; machine = 100 };
}

-- an instance has the lists of the trial of words g, and no machine is closed
pub record IsTrial (g : ℕ → ℕ) (i : Tables) : Type 0 where
  pub lists : lists_of i.raw ≡ trial_lists g
  pub open_to_all : i.closed ≡ None

-- the assignment at the start
unfoldable pub start_list : List Machine
start_list = listed 1000 start_machine
