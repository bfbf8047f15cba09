-- The numbers of an instance, each by the letter that the challenge's problem definition gives it.
-- Only these definitions look inside the lists; all others go through them. Beyond the end of a list a number is 0.
use Rattle.std.specs.Prelude.{ℕ, zero, suc, ◌+◌, ◌-◌, Bool, false, length, slice_index_or, Option, Some, None}
use Rattle.std.proofs.Common.{lit<}
use Rattle.ra_base.specs.Listed.{Listed}
use Rattle.ra_base.specs.Tables.{cell}
use Rattle.ra_model.specs.declared.raw.BalanceRow.{BalanceRow}
use Rattle.ra_model.specs.declared.raw.MachineRow.{MachineRow}
use Rattle.ra_model.specs.declared.raw.ProcessRow.{ProcessRow}
use Rattle.ra_model.specs.declared.raw.RawInstance.{RawInstance}
use Rattle.ra_model.specs.declared.raw.ResourceRow.{ResourceRow}
use Rattle.ra_model.specs.declared.raw.ServiceRow.{ServiceRow}
use Rattle.ra_model.specs.declared.raw.Tables.{Tables}

-- the row of a resource, a machine, a service, a process, a balance objective
unfoldable pub resource_row : Tables → ℕ → ResourceRow
resource_row i r =
    slice_index_or i.raw.resources.items r
    (record { transient = false; load_weight = 0; small = lit< tt })

unfoldable pub machine_row : Tables → ℕ → MachineRow
machine_row i m =
    slice_index_or i.raw.machines.items m
    (record {
      neighbourhood = 0;
      location = 0;
      small_neighbourhood = lit< tt;
      small_location = lit< tt;
    })

unfoldable pub service_row : Tables → ℕ → ServiceRow
service_row i s =
    slice_index_or i.raw.services.items s
    (record { spread_min = 0; dependency_end = 0; small_spread = lit< tt; small_end = lit< tt })

unfoldable pub process_row : Tables → ℕ → ProcessRow
process_row i p =
    slice_index_or i.raw.processes.items p
    (record { service = record { 0 = 0 }; move_cost = 0; small = lit< tt })

unfoldable pub balance_row : Tables → ℕ → BalanceRow
balance_row i b =
    slice_index_or i.raw.balances.items b
    (record {
      first = record { 0 = 0 };
      second = record { 0 = 0 };
      target = 0;
      weight = 0;
      small_target = lit< tt;
      small_weight = lit< tt;
    })

-- how many there are of each
unfoldable pub resource_count : Tables → ℕ
resource_count i = length i.raw.resources.items

unfoldable pub machine_count : Tables → ℕ
machine_count i = length i.raw.machines.items

unfoldable pub service_count : Tables → ℕ
service_count i = length i.raw.services.items

unfoldable pub process_count : Tables → ℕ
process_count i = length i.raw.processes.items

unfoldable pub balance_count : Tables → ℕ
balance_count i = length i.raw.balances.items

-- whether resource r is transient: used on both machines while a process moves
unfoldable pub transient_at : Tables → ℕ → Bool
transient_at i r = (resource_row i r).transient

-- the weight of the load cost of resource r
unfoldable pub load_weight_of : Tables → ℕ → ℕ
load_weight_of i r = (resource_row i r).load_weight

-- the label of machine m's neighbourhood
unfoldable pub neighbourhood_of : Tables → ℕ → ℕ
neighbourhood_of i m = (machine_row i m).neighbourhood

-- the label of machine m's location
unfoldable pub location_of : Tables → ℕ → ℕ
location_of i m = (machine_row i m).location

-- C(m, r), the capacity of machine m for resource r
unfoldable pub capacity_of : Tables → ℕ → ℕ → ℕ
capacity_of i m r = cell (resource_count i) i.raw.capacities.items m r

-- SC(m, r), the safety capacity of machine m for resource r
unfoldable pub safety_of : Tables → ℕ → ℕ → ℕ
safety_of i m r = cell (resource_count i) i.raw.safeties.items m r

-- MMC(from, to), what the way from one machine to another costs
unfoldable pub way_cost_of : Tables → ℕ → ℕ → ℕ
way_cost_of i from to = cell (machine_count i) i.raw.move_costs.items from to

-- spreadMin(s), how many locations service s needs
unfoldable pub spread_of : Tables → ℕ → ℕ
spread_of i s = (service_row i s).spread_min

-- where the dependencies of service s end in the list of all dependencies, and where they start
unfoldable pub dependency_end : Tables → ℕ → ℕ
dependency_end i s = (service_row i s).dependency_end

unfoldable pub dependency_start : Tables → ℕ → ℕ
dependency_start i zero = 0
dependency_start i (suc s) = dependency_end i s

-- how many dependencies service s has
unfoldable pub dependency_count : Tables → ℕ → ℕ
dependency_count i s = dependency_end i s - dependency_start i s

-- the service at a place of the list of all dependencies
unfoldable pub need_at : Tables → ℕ → ℕ
need_at i place = (slice_index_or i.raw.dependencies.items place (record { 0 = 0 })).0

-- the service of dependency k of service s
unfoldable pub need_of : Tables → ℕ → ℕ → ℕ
need_of i s k = need_at i (dependency_start i s + k)

-- the service of process p
unfoldable pub service_of : Tables → ℕ → ℕ
service_of i p = (process_row i p).service.0

-- R(p, r), what process p requires of resource r
unfoldable pub requirement_of : Tables → ℕ → ℕ → ℕ
requirement_of i p r = cell (resource_count i) i.raw.requirements.items p r

-- PMC(p), what it costs to move process p
unfoldable pub process_cost_of : Tables → ℕ → ℕ
process_cost_of i p = (process_row i p).move_cost

-- the two resources, the target and the weight of balance objective b
unfoldable pub first_of : Tables → ℕ → ℕ
first_of i b = (balance_row i b).first.0

unfoldable pub second_of : Tables → ℕ → ℕ
second_of i b = (balance_row i b).second.0

unfoldable pub target_of : Tables → ℕ → ℕ
target_of i b = (balance_row i b).target

unfoldable pub balance_weight_of : Tables → ℕ → ℕ
balance_weight_of i b = (balance_row i b).weight

-- processMoveWeight, serviceMoveWeight and machineMoveWeight
unfoldable pub process_weight_of : Tables → ℕ
process_weight_of i = i.raw.process_weight

unfoldable pub service_weight_of : Tables → ℕ
service_weight_of i = i.raw.service_weight

unfoldable pub machine_weight_of : Tables → ℕ
machine_weight_of i = i.raw.machine_weight

-- flag m of a list of flags; false if the list is left out
unfoldable pub flag_in : Option (Listed Bool) → ℕ → Bool
flag_in None m = false
flag_in (Some flags) m = slice_index_or flags.items m false

-- whether machine m is closed: no process may move to it
unfoldable pub closed_at : Tables → ℕ → Bool
closed_at i m = flag_in i.closed m

-- the instance of a model file, which closes no machine
abbrev pub all_open : RawInstance → Tables
all_open raw = record { raw = raw; closed = None }

-- the instance with exactly these machines closed
abbrev pub with_closed : Tables → Listed Bool → Tables
with_closed i flags = record { raw = i.raw; closed = Some flags }

-- the instance with other processes, which require these numbers
abbrev pub with_processes : Tables → Listed ProcessRow → Listed ℕ → Tables
with_processes i rows requirements =
    record i { raw = record i.raw { processes = rows; requirements = requirements } }
