-- What a model file means: its fields in their order, with their numbering and their limits.
use Rattle.std.specs.Prelude.{◌≡◌, ℕ, ◌+◌, ◌-◌, ◌*◌, List, [], ◌∷◌, ◌++◌, length, Option, None, Result, Ok, Err}
use Rattle.std.specs.Result.{result_err}
use Rattle.ra_base.specs.declared.ids.Service.{Service}
use Rattle.ra_model.specs.declared.raw.Tables.{Tables}
use Rattle.ra_token.specs.Faults.{first_fault}
use Rattle.ra_token.specs.TokenList.{tokens}
use Rattle.ra_model_read.specs.declared.faults.Field.TheVariants.{ResourceCount, LoadWeight, MachineCount}
use Rattle.ra_model_read.specs.declared.faults.Field.TheVariants.{Neighbourhood, Location, Capacity, Safety, MoveCost}
use Rattle.ra_model_read.specs.declared.faults.Field.TheVariants.{ServiceCount, SpreadMin, DependencyCount, Dependency}
use Rattle.ra_model_read.specs.declared.faults.Field.TheVariants.{ProcessCount, ProcessService, Requirement}
use Rattle.ra_model_read.specs.declared.faults.Field.TheVariants.{ProcessCost, BalanceCount, BalanceFirst}
use Rattle.ra_model_read.specs.declared.faults.Field.TheVariants.{BalanceSecond, BalanceTarget, BalanceWeight}
use Rattle.ra_model_read.specs.declared.faults.Field.TheVariants.{ProcessWeight, ServiceWeight, MachineWeight}
use Rattle.ra_model_read.specs.declared.faults.ModelFault.{ModelFault}
use Rattle.ra_model_read.specs.Formats.{Left, Outcome, Read, Refused, Format, pure, ◌>>=◌, any, field, flag, along}
use Rattle.ra_model_read.specs.Formats.{numbers, ends}
use Rattle.ra_model_read.specs.Lists.{ResourceNumbers, BalanceNumbers, MachineLists, ServiceLists, ProcessLists}
use Rattle.ra_model_read.specs.Lists.{Weights, Rest, Lists, lists_of}

-- resource r
unfoldable pub resource : ℕ → List ResourceNumbers → Format (List ResourceNumbers)
resource r so_far = do
  transient ← flag r
  load_weight ← any LoadWeight r
  pure (so_far ++ record { transient = transient; load_weight = load_weight } ∷ [])

unfoldable pub resources : Format (List ResourceNumbers)
resources = do
  count ← field ResourceCount 0 1 20
  along count resource []

-- machine m of M, for R resources: its capacities and safety capacities are a row for it, and so are the costs of the
-- ways from it
unfoldable pub machine : ℕ → ℕ → ℕ → MachineLists → Format MachineLists
machine R M m so_far = do
  neighbourhood ← any Neighbourhood m
  location ← any Location m
  capacities ← numbers Capacity (m * R) R so_far.capacities
  safeties ← numbers Safety (m * R) R so_far.safeties
  move_costs ← numbers MoveCost (m * M) M so_far.move_costs
  pure (record {
    rows = so_far.rows ++ record { neighbourhood = neighbourhood; location = location } ∷ [];
    capacities = capacities;
    safeties = safeties;
    move_costs = move_costs;
  })

unfoldable pub machines : ℕ → Format MachineLists
machines R = do
  count ← field MachineCount 0 1 5000
  along count (machine R count)
      (record { rows = []; capacities = []; safeties = []; move_costs = [] })

-- dependency `place` of all, on one of S services
unfoldable pub dependency : ℕ → ℕ → ℕ → List Service → Format (List Service)
dependency S first k so_far = do
  needed ← field Dependency (first + k) 0 (S - 1)
  pure (so_far ++ record { 0 = needed } ∷ [])

-- this number of dependencies more, each on one of S services
abbrev pub dependencies_more : ℕ → ℕ → List Service → Format (List Service)
dependencies_more S count so_far = along count (dependency S (length so_far)) so_far

-- service s of S
unfoldable pub service : ℕ → ℕ → ServiceLists → Format ServiceLists
service S s so_far = do
  spread_min ← any SpreadMin s
  count ← field DependencyCount s 0 (100000 - length so_far.dependencies)
  dependencies ← dependencies_more S count so_far.dependencies
  pure (record {
    rows = so_far.rows
        ++ record { spread_min = spread_min; dependency_end = length dependencies } ∷ [];
    dependencies = dependencies;
  })

unfoldable pub services : Format ServiceLists
services = do
  count ← field ServiceCount 0 1 50000
  along count (service count) (record { rows = []; dependencies = [] })

-- process p, of one of S services
unfoldable pub process : ℕ → ℕ → ℕ → ProcessLists → Format ProcessLists
process S R p so_far = do
  its_service ← field ProcessService p 0 (S - 1)
  requirements ← numbers Requirement (p * R) R so_far.requirements
  move_cost ← any ProcessCost p
  pure (record {
    rows = so_far.rows
        ++ record { service = record { 0 = its_service }; move_cost = move_cost } ∷ [];
    requirements = requirements;
  })

unfoldable pub processes : ℕ → ℕ → Format ProcessLists
processes S R = do
  count ← field ProcessCount 0 1 50000
  along count (process S R) (record { rows = []; requirements = [] })

-- balance objective b, on two of R resources
unfoldable pub balance : ℕ → ℕ → List BalanceNumbers → Format (List BalanceNumbers)
balance R b so_far = do
  first ← field BalanceFirst b 0 (R - 1)
  second ← field BalanceSecond b 0 (R - 1)
  target ← any BalanceTarget b
  weight ← any BalanceWeight b
  pure
      (so_far ++ record {
        first = record { 0 = first };
        second = record { 0 = second };
        target = target;
        weight = weight;
      } ∷ [])

unfoldable pub balances : ℕ → Format (List BalanceNumbers)
balances R = do
  count ← field BalanceCount 0 0 10
  along count (balance R) []

unfoldable pub weights : Format Weights
weights = do
  process ← any ProcessWeight 0
  service ← any ServiceWeight 0
  machine ← any MachineWeight 0
  pure (record { process = process; service = service; machine = machine })

-- what follows S services, for R resources, up to the end of the file
unfoldable pub rest : ℕ → ℕ → Format Rest
rest S R = do
  processes ← processes S R
  balances ← balances R
  weights ← weights
  nothing ← ends
  pure (record { processes = processes; balances = balances; weights = weights })

-- the whole file
unfoldable pub model : Format Lists
model = do
  resources ← resources
  machines ← machines (length resources)
  services ← services
  rest ← rest (length services.rows) (length resources)
  pure (record {
    resources = resources;
    machines = machines;
    services = services;
    processes = rest.processes;
    balances = rest.balances;
    weights = rest.weights;
  })

-- the tokens of the bytes, and their fault
unfoldable pub all_of : List ℕ → Left
all_of bytes = record { tokens = tokens bytes; fault = first_fault bytes }

-- the lists that the format gives, or its refusal
unfoldable pub answer_of : {X : Type 0} → Outcome X → Result X ModelFault
answer_of (Read x left) = Ok x
answer_of (Refused fault) = Err fault

unfoldable pub model_of : List ℕ → Result Lists ModelFault
model_of bytes = answer_of (model (all_of bytes))

-- the bytes mean the instance of these tables, in which no machine is closed
pub record IsModel (bytes : List ℕ) (i : Tables) : Type 0 where
  pub lists : model_of bytes ≡ Ok (lists_of i.raw)
  pub open_to_all : i.closed ≡ None

-- the first thing that is wrong with bytes that mean no instance
unfoldable pub model_refusal : List ℕ → Option ModelFault
model_refusal bytes = result_err (model_of bytes)
