-- The limits of an instance's numbers, by their types, with machines closed and with other processes; and what a read
-- of a row gives.
use native.Mathlib.Numerals.{unary_clauses}
use Rattle.std.proofs.lemmas.List.{get_or_read, get_or-take, get_or-drop}
use Rattle.std.proofs.Math.ListN.{take, drop}
use Rattle.std.proofs.Common.{refl, ap, ◌∙◌, ◌+◌, ◌-◌, ◌*◌, ◌≡◌, ℕ, zero, suc, ◌<◌, ◌≤◌, length, length-take}
use Rattle.std.proofs.Common.{length-drop, List, Bool, arith}
use Rattle.std.specs.Coded.{le_prop}
use Rattle.std.specs.Prelude.{slice_index, slice_index_or, ◌^◌}
use Rattle.ra_base.specs.Listed.{Listed}
use Rattle.ra_base.specs.declared.ids.Service.{Service}
use Rattle.ra_base.specs.Tables.{cell}
use Rattle.ra_model.specs.declared.raw.Tables.{Tables}
use Rattle.ra_model.specs.declared.raw.BalanceRow.{BalanceRow}
use Rattle.ra_model.specs.declared.raw.MachineRow.{MachineRow}
use Rattle.ra_model.specs.declared.raw.ProcessRow.{ProcessRow}
use Rattle.ra_model.specs.declared.raw.RawInstance.{RawInstance}
use Rattle.ra_model.specs.declared.raw.ResourceRow.{ResourceRow}
use Rattle.ra_model.specs.declared.raw.ServiceRow.{ServiceRow}
use Rattle.ra_model.specs.Limits.{WellFormed, Small, IsSmallTable, most_processes}
use Rattle.ra_model.specs.Numbers.{with_closed, with_processes, resource_row, machine_row, service_row, process_row, balance_row}
use Rattle.ra_model.specs.Numbers.{resource_count, machine_count, service_count, process_count, balance_count}
use Rattle.ra_model.specs.Numbers.{load_weight_of, neighbourhood_of, location_of, capacity_of, safety_of, way_cost_of}
use Rattle.ra_model.specs.Numbers.{spread_of, dependency_end, dependency_start, need_at, need_of, dependency_count}
use Rattle.ra_model.specs.Numbers.{service_of, requirement_of, process_cost_of, first_of, second_of, target_of}
use Rattle.ra_model.specs.Numbers.{balance_weight_of, process_weight_of, service_weight_of, machine_weight_of}

-- the numbers of rows are small by their types
pub small_tables : (i : Tables) → IsSmallTable i.raw.capacities.items → IsSmallTable i.raw.safeties.items →
    IsSmallTable i.raw.move_costs.items → IsSmallTable i.raw.requirements.items → Small i
unfolding cell load_weight_of neighbourhood_of location_of capacity_of safety_of way_cost_of spread_of dependency_end
    requirement_of process_cost_of target_of balance_weight_of process_weight_of service_weight_of machine_weight_of
small_tables i capacities safeties way_costs requirements = record {
  load_weights = λ r. (resource_row i r).small;
  neighbourhoods = λ m. (machine_row i m).small_neighbourhood;
  locations = λ m. (machine_row i m).small_location;
  capacities = λ m r. capacities.each _;
  safeties = λ m r. safeties.each _;
  way_costs = λ from to. way_costs.each _;
  spreads = λ s. (service_row i s).small_spread;
  dependency_ends = λ s. (service_row i s).small_end;
  requirements = λ p r. requirements.each _;
  process_costs = λ p. (process_row i p).small;
  targets = λ b. (balance_row i b).small_target;
  balance_weights = λ b. (balance_row i b).small_weight;
  process_weight = i.raw.small_process_weight;
  service_weight = i.raw.small_service_weight;
  machine_weight = i.raw.small_machine_weight;
}

-- closing machines changes no number
pub small_closed : (i : Tables) (flags : Listed Bool) → Small i → Small (with_closed i flags)
unfolding resource_count machine_count resource_row machine_row service_row process_row balance_row load_weight_of
    neighbourhood_of location_of capacity_of safety_of way_cost_of spread_of dependency_end requirement_of
    process_cost_of target_of balance_weight_of process_weight_of service_weight_of machine_weight_of
small_closed i flags h = record {
  load_weights = h.load_weights;
  neighbourhoods = h.neighbourhoods;
  locations = h.locations;
  capacities = h.capacities;
  safeties = h.safeties;
  way_costs = h.way_costs;
  spreads = h.spreads;
  dependency_ends = h.dependency_ends;
  requirements = h.requirements;
  process_costs = h.process_costs;
  targets = h.targets;
  balance_weights = h.balance_weights;
  process_weight = h.process_weight;
  service_weight = h.service_weight;
  machine_weight = h.machine_weight;
}

-- other processes change no other number
pub small_processes : (i : Tables) (rows : Listed ProcessRow) (requirements : Listed ℕ) → Small i →
    IsSmallTable requirements.items → Small (with_processes i rows requirements)
unfolding cell resource_count machine_count resource_row machine_row service_row process_row balance_row
    load_weight_of neighbourhood_of location_of capacity_of safety_of way_cost_of spread_of dependency_end
    requirement_of process_cost_of target_of balance_weight_of process_weight_of service_weight_of machine_weight_of
small_processes i rows requirements h table = record {
  load_weights = h.load_weights;
  neighbourhoods = h.neighbourhoods;
  locations = h.locations;
  capacities = h.capacities;
  safeties = h.safeties;
  way_costs = h.way_costs;
  spreads = h.spreads;
  dependency_ends = h.dependency_ends;
  requirements = λ p r. table.each _;
  process_costs = λ p. (process_row (with_processes i rows requirements) p).small;
  targets = h.targets;
  balance_weights = h.balance_weights;
  process_weight = h.process_weight;
  service_weight = h.service_weight;
  machine_weight = h.machine_weight;
}

-- lists with the same weights; it is proved again that they are small
abbrev pub with_bounds : (x : RawInstance) → x.process_weight < 2 ^ 32 → x.service_weight < 2 ^ 32 →
    x.machine_weight < 2 ^ 32 → RawInstance
with_bounds x a b c = record x { small_process_weight = a; small_service_weight = b; small_machine_weight = c }

pub same_weights : (x : RawInstance) (a : x.process_weight < 2 ^ 32) (b : x.service_weight < 2 ^ 32)
    (c : x.machine_weight < 2 ^ 32) → with_bounds x a b c ≡ x
same_weights x a b c =
    ap (λ a. with_bounds x a b c) (le_prop a x.small_process_weight)
    ∙ ap (λ b. with_bounds x x.small_process_weight b c) (le_prop b x.small_service_weight)
    ∙ ap (with_bounds x x.small_process_weight x.small_service_weight) (le_prop c x.small_machine_weight)

-- j with the lists of i, but for the processes and what they require
abbrev pub with_lists : Tables → Tables → Tables
with_lists i j = record j {
  raw = record j.raw {
    resources = record { items = i.raw.resources.items; room = j.raw.resources.room };
    machines = record { items = i.raw.machines.items; room = j.raw.machines.room };
    capacities = record { items = i.raw.capacities.items; room = j.raw.capacities.room };
    safeties = record { items = i.raw.safeties.items; room = j.raw.safeties.room };
    move_costs = record { items = i.raw.move_costs.items; room = j.raw.move_costs.room };
    services = record { items = i.raw.services.items; room = j.raw.services.room };
    dependencies = record { items = i.raw.dependencies.items; room = j.raw.dependencies.room };
    balances = record { items = i.raw.balances.items; room = j.raw.balances.room };
  };
}

-- j is well formed if its lists are those of i, but for processes that fit
pub well_formed_with : (i j : Tables) → WellFormed i → 1 ≤ process_count j → process_count j ≤ most_processes →
    length j.raw.requirements.items ≡ process_count j * resource_count i →
    ((p : ℕ) → p < process_count j → service_of j p < service_count i) → WellFormed (with_lists i j)
unfolding resource_count machine_count service_count process_count balance_count service_row process_row balance_row
    dependency_end dependency_start need_at service_of first_of second_of
well_formed_with i j h some few table served = record {
  some_resource = h.some_resource;
  few_resources = h.few_resources;
  some_machine = h.some_machine;
  few_machines = h.few_machines;
  some_service = h.some_service;
  few_services = h.few_services;
  some_process = some;
  few_processes = few;
  few_balances = h.few_balances;
  few_dependencies = h.few_dependencies;
  capacities = h.capacities;
  safeties = h.safeties;
  way_costs = h.way_costs;
  requirements = table;
  in_order = λ s. h.in_order s;
  within = h.within;
  all_owned = h.all_owned;
  needs = h.needs;
  services = served;
  firsts = h.firsts;
  seconds = h.seconds;
}

pub well_formed_closed : (i : Tables) (flags : Listed Bool) → WellFormed i → WellFormed (with_closed i flags)
unfolding process_count service_of process_row
well_formed_closed i flags h =
    well_formed_with i (with_closed i flags) h h.some_process h.few_processes h.requirements h.services

-- what a read of a row gives

pub resource_read : (i : Tables) (k : ℕ) (row : ResourceRow) → k < resource_count i →
    row ≡ slice_index_or i.raw.resources.items k row → row ≡ resource_row i k
unfolding resource_count resource_row
resource_read i k row within read = get_or_read i.raw.resources.items k row within read _

pub machine_read : (i : Tables) (k : ℕ) (row : MachineRow) → k < machine_count i →
    row ≡ slice_index_or i.raw.machines.items k row → row ≡ machine_row i k
unfolding machine_count machine_row
machine_read i k row within read = get_or_read i.raw.machines.items k row within read _

pub service_read : (i : Tables) (k : ℕ) (row : ServiceRow) → k < service_count i →
    row ≡ slice_index_or i.raw.services.items k row → row ≡ service_row i k
unfolding service_count service_row
service_read i k row within read = get_or_read i.raw.services.items k row within read _

pub process_read : (i : Tables) (k : ℕ) (row : ProcessRow) → k < process_count i →
    row ≡ slice_index_or i.raw.processes.items k row → row ≡ process_row i k
unfolding process_count process_row
process_read i k row within read = get_or_read i.raw.processes.items k row within read _

pub balance_read : (i : Tables) (k : ℕ) (row : BalanceRow) → k < balance_count i →
    row ≡ slice_index_or i.raw.balances.items k row → row ≡ balance_row i k
unfolding balance_count balance_row
balance_read i k row within read = get_or_read i.raw.balances.items k row within read _

-- a process's part of the requirements
pub required_each : (i : Tables) (p width r : ℕ) (all part : List ℕ) → width ≡ resource_count i →
    all ≡ i.raw.requirements.items → part ≡ take (p * width + width - p * width) (drop (p * width) all) →
    r < resource_count i → slice_index part r ≡ requirement_of i p r
unfolding requirement_of cell
required_each i p width r all part width_is all_is is within = rw (is, all_is, width_is)
    (get_or-take {A = ℕ} (p * resource_count i + resource_count i - p * resource_count i)
    (drop (p * resource_count i) i.raw.requirements.items) r 0 (omega (arith, within))
    ∙ get_or-drop (p * resource_count i) i.raw.requirements.items r 0)

-- the numbers of an objective's row

pub first_read : (i : Tables) (b : ℕ) (row : BalanceRow) → row ≡ balance_row i b → row.first.0 ≡ first_of i b
unfolding first_of
first_read i b row read = ap (λ (x : BalanceRow). x.first.0) read

pub second_read : (i : Tables) (b : ℕ) (row : BalanceRow) → row ≡ balance_row i b → row.second.0 ≡ second_of i b
unfolding second_of
second_read i b row read = ap (λ (x : BalanceRow). x.second.0) read

pub target_read : (i : Tables) (b : ℕ) (row : BalanceRow) → row ≡ balance_row i b → row.target ≡ target_of i b
unfolding target_of
target_read i b row read = ap (λ (x : BalanceRow). x.target) read

-- where the dependencies of a service start

pub start_first : (i : Tables) → dependency_start i 0 ≡ 0
unfolding dependency_start
start_first i = refl

pub start_next : (i : Tables) (s : ℕ) → 0 < s → dependency_start i s ≡ dependency_end i (s - 1)
unfolding dependency_start
start_next i zero some = absurd (omega arith)
start_next i (suc s) some = simp unary_clauses refl

-- the dependencies of a service, cut out of the list of all
pub needs_count : (i : Tables) (s : ℕ) (needs : List Service) → needs ≡ i.raw.dependencies.items →
    dependency_start i s ≤ dependency_end i s → dependency_end i s ≤ length i.raw.dependencies.items →
    length (take (dependency_end i s - dependency_start i s) (drop (dependency_start i s) needs)) ≡ dependency_count i s
unfolding dependency_count
needs_count i s needs all ordered within = rw all (grind (arith, length-take, length-drop))

pub needs_each : (i : Tables) (s : ℕ) (needs : List Service) → needs ≡ i.raw.dependencies.items → (k : ℕ) →
    k < dependency_count i s →
    (slice_index_or (take (dependency_end i s - dependency_start i s) (drop (dependency_start i s) needs)) k
    (record { 0 = 0 })).0 ≡ need_of i s k
unfolding dependency_count need_of need_at
needs_each i s needs all k within = rw (all, get_or-take, get_or-drop) refl

-- the ways from a machine, cut out of the list of all
pub ways_count : (i : Tables) (from : ℕ) (ways : List ℕ) → ways ≡ i.raw.move_costs.items → from < machine_count i →
    length i.raw.move_costs.items ≡ machine_count i * machine_count i →
    length (take (from * machine_count i + machine_count i - from * machine_count i)
    (drop (from * machine_count i) ways)) ≡ machine_count i
ways_count i from ways all within whole = rw all (grind (arith, length-take, length-drop, whole, within))

pub ways_each : (i : Tables) (from : ℕ) (ways : List ℕ) → ways ≡ i.raw.move_costs.items → (to : ℕ) →
    to < machine_count i →
    slice_index (take (from * machine_count i + machine_count i - from * machine_count i)
    (drop (from * machine_count i) ways)) to ≡ way_cost_of i from to
unfolding way_cost_of cell
ways_each i from ways all to within =
    rw all (get_or-take {A = ℕ} (from * machine_count i + machine_count i - from * machine_count i)
    (drop (from * machine_count i) i.raw.move_costs.items) to 0 (omega (arith, within))
    ∙ get_or-drop (from * machine_count i) i.raw.move_costs.items to 0)
