-- Instances with the same lists are alike: they have the same first broken constraint and the same parts.
use Rattle.std.proofs.Common.{arith}
use Rattle.std.proofs.lemmas.Grind.{common_steps}
use Rattle.std.proofs.Common.{◌≡◌, ℕ, List, Option, None, refl, sym, ap, ◌∙◌, subst}
use Rattle.ra_base.specs.Searches.{or_else}
use Rattle.ra_base.specs.declared.causes.Cause.{Cause}
use Rattle.ra_base.proofs.Searches.{first_same}
use Rattle.ra_base.specs.declared.ids.Machine.{Machine}
use Rattle.ra_base.specs.declared.ids.Service.{Service}
use Rattle.ra_model.specs.declared.raw.BalanceRow.{BalanceRow}
use Rattle.ra_model.specs.declared.raw.MachineRow.{MachineRow}
use Rattle.ra_model.specs.declared.raw.ProcessRow.{ProcessRow}
use Rattle.ra_model.specs.declared.raw.RawInstance.{RawInstance}
use Rattle.ra_model.specs.declared.raw.ResourceRow.{ResourceRow}
use Rattle.ra_model.specs.declared.raw.ServiceRow.{ServiceRow}
use Rattle.ra_model.specs.declared.raw.Tables.{Tables}
use Rattle.ra_model.specs.Limits.{WellFormed}
use Rattle.ra_model.specs.Numbers.{resource_row, machine_row, service_row, process_row, balance_row, resource_count}
use Rattle.ra_model.specs.Numbers.{machine_count, service_count, process_count, balance_count, transient_at}
use Rattle.ra_model.specs.Numbers.{load_weight_of, neighbourhood_of, location_of, capacity_of, safety_of, way_cost_of}
use Rattle.ra_model.specs.Numbers.{spread_of, dependency_end, dependency_start, dependency_count, need_at, need_of}
use Rattle.ra_model.specs.Numbers.{service_of, requirement_of, process_cost_of, first_of, second_of, target_of}
use Rattle.ra_model.specs.Numbers.{balance_weight_of, process_weight_of, service_weight_of, machine_weight_of}
use Rattle.ra_model.specs.Assignments.{IsAssignment, tally}
use Rattle.ra_model.specs.Usage.{use_share, use_of, transient_share, transient_of}
use Rattle.ra_model.specs.Services.{is_of, of_service, members_at, on_machine, in_neighbourhood, in_location}
use Rattle.ra_model.specs.Services.{locations_of, moved_of}
use Rattle.ra_model.specs.Broken.{capacity_test, row_capacity, broken_capacity, transient_test, row_transient}
use Rattle.ra_model.specs.Broken.{broken_transient, conflict_test, service_conflict, broken_conflict, spread_test}
use Rattle.ra_model.specs.Broken.{broken_spread, near_of, far_test, dependency_test, pair_dependency}
use Rattle.ra_model.specs.Broken.{service_dependency, broken_dependency, closed_test, broken_closed, first_broken}
use Rattle.ra_model.specs.Costs.{excess_on, load_part, load_cost, available, shortfall, balance_part, balance_cost}
use Rattle.ra_model.specs.Costs.{process_share, process_cost, service_cost, way_share, machine_cost, objective}
use Rattle.ra_model.specs.Costs.{parts_of}
use Rattle.ra_model.proofs.InstanceLemmas.{well_formed_with}
use Rattle.ra_edit.specs.SameLists.{HasLists, AreSameLists}
use Rattle.ra_edit.proofs.RowLaws.{Small, small_same}

-- the instance of lists that have no room, in which no machine is closed
bare_from : List ResourceRow → List MachineRow → List ℕ → List ℕ → List ℕ → List ServiceRow → List Service →
    List ProcessRow → List ℕ → List BalanceRow → Small → Small → Small → Tables
bare_from rs ms cs ss ws sv ds ps qs bs a b c = record {
  raw = record {
    resources = record { items = rs; room = 0 };
    machines = record { items = ms; room = 0 };
    capacities = record { items = cs; room = 0 };
    safeties = record { items = ss; room = 0 };
    move_costs = record { items = ws; room = 0 };
    services = record { items = sv; room = 0 };
    dependencies = record { items = ds; room = 0 };
    processes = record { items = ps; room = 0 };
    requirements = record { items = qs; room = 0 };
    balances = record { items = bs; room = 0 };
    process_weight = a.number;
    service_weight = b.number;
    machine_weight = c.number;
    small_process_weight = a.small;
    small_service_weight = b.small;
    small_machine_weight = c.small;
  };
  closed = None;
}

weight_of : RawInstance → Small
weight_of raw = record { number = raw.process_weight; small = raw.small_process_weight }

service_weight_from : RawInstance → Small
service_weight_from raw = record { number = raw.service_weight; small = raw.small_service_weight }

machine_weight_from : RawInstance → Small
machine_weight_from raw = record { number = raw.machine_weight; small = raw.small_machine_weight }

bare : RawInstance → Tables
bare raw = bare_from raw.resources.items raw.machines.items raw.capacities.items raw.safeties.items raw.move_costs.items
    raw.services.items raw.dependencies.items raw.processes.items raw.requirements.items raw.balances.items
    (weight_of raw) (service_weight_from raw) (machine_weight_from raw)

weights_same : (x y : RawInstance) → x.process_weight ≡ y.process_weight → weight_of x ≡ weight_of y
unfolding weight_of
weights_same x y e = small_same (weight_of x) (weight_of y) e

bare_same : {x y : RawInstance} → HasLists x y → bare x ≡ bare y
unfolding bare service_weight_from machine_weight_from
bare_same {x} {y} h = grind (arith, common_steps, weights_same, small_same, service_weight_from, machine_weight_from)

-- no definition but that of closed machines looks at rooms and flags

machines_bare : (i : Tables) → machine_count (bare i.raw) ≡ machine_count i
unfolding bare bare_from machine_count
machines_bare i = refl

processes_bare : (i : Tables) → process_count (bare i.raw) ≡ process_count i
unfolding bare bare_from process_count
processes_bare i = refl

-- the first broken constraint, where this is what closed machines break
first_open : Tables → List Machine → List Machine → Option Cause → Option Cause
first_open i a0 a shut = or_else (broken_capacity i a) (or_else (broken_transient i a0 a) (or_else (broken_conflict i a)
    (or_else (broken_spread i a) (or_else (broken_dependency i a) shut))))

open_bare : (i : Tables) (a0 a : List Machine) (shut : Option Cause) →
    first_open (bare i.raw) a0 a shut ≡ first_open i a0 a shut
unfolding first_open bare bare_from broken_capacity row_capacity capacity_test use_of use_share capacity_of
    broken_transient row_transient transient_test transient_of transient_share transient_at resource_row resource_count
    requirement_of broken_conflict service_conflict conflict_test on_machine members_at of_service is_of service_of
    process_row broken_spread spread_test spread_of service_row locations_of in_location location_of machine_row
    broken_dependency service_dependency pair_dependency dependency_test far_test near_of in_neighbourhood
    neighbourhood_of need_of need_at dependency_start dependency_end dependency_count machine_count service_count
    process_count
open_bare i a0 a shut = refl

parts_bare : (i : Tables) (a0 a : List Machine) → parts_of (bare i.raw) a0 a ≡ parts_of i a0 a
unfolding bare bare_from parts_of objective load_cost load_part excess_on balance_cost balance_part shortfall available
    process_cost process_share service_cost moved_of machine_cost way_share use_of use_share members_at of_service is_of
    service_of process_row resource_row balance_row resource_count machine_count service_count process_count
    balance_count load_weight_of capacity_of safety_of way_cost_of requirement_of process_cost_of first_of second_of
    target_of balance_weight_of process_weight_of service_weight_of machine_weight_of tally weight_of
    service_weight_from machine_weight_from
parts_bare i a0 a = refl

to_bare : {i : Tables} → WellFormed i → WellFormed (bare i.raw)
unfolding bare bare_from process_count service_of process_row
to_bare {i} h = well_formed_with i (bare i.raw) h h.some_process h.few_processes h.requirements h.services

from_bare : {i : Tables} → WellFormed (bare i.raw) → WellFormed i
unfolding bare bare_from resource_count service_count process_count service_of process_row
from_bare {i} h = well_formed_with (bare i.raw) i h h.some_process h.few_processes h.requirements h.services

-- what holds of one of two instances with the same lists holds of the other

along : {X : Type 0} (f : Tables → X) (i j : Tables) → ((k : Tables) → f (bare k.raw) ≡ f k) → HasLists j.raw i.raw →
    f j ≡ f i
along f i j unchanged h = cc (unchanged j, bare_same h, unchanged i)

pub same_machines : (i j : Tables) → HasLists j.raw i.raw → machine_count j ≡ machine_count i
same_machines i j h = along machine_count i j machines_bare h

pub same_processes : (i j : Tables) → HasLists j.raw i.raw → process_count j ≡ process_count i
same_processes i j h = along process_count i j processes_bare h

pub same_well : (i j : Tables) → HasLists j.raw i.raw → WellFormed i → WellFormed j
same_well i j h well = from_bare (subst WellFormed (sym (bare_same h)) (to_bare well))

pub same_parts : (i j : Tables) (a0 a : List Machine) → HasLists j.raw i.raw → parts_of j a0 a ≡ parts_of i a0 a
same_parts i j a0 a h = along (λ k. parts_of k a0 a) i j (λ k. parts_bare k a0 a) h

pub same_fits : {i : Tables} {a : List Machine} (j : Tables) → HasLists j.raw i.raw → IsAssignment i a →
    IsAssignment j a
same_fits {i} j h fits = grind (arith, common_steps, same_processes, same_machines)

same_closed : (i j : Tables) (a0 a : List Machine) → AreSameLists i j → IsAssignment i a →
    broken_closed j a0 a ≡ broken_closed i a0 a
unfolding broken_closed closed_test
same_closed i j a0 a h fits = grind (arith, common_steps, same_processes, first_same)

pub same_broken : (i j : Tables) (a0 a : List Machine) → AreSameLists i j → IsAssignment i a →
    first_broken j a0 a ≡ first_broken i a0 a
unfolding first_broken first_open
same_broken i j a0 a h fits =
    along (λ k. first_open k a0 a (broken_closed j a0 a)) i j (λ k. open_bare k a0 a (broken_closed j a0 a)) h.lists
    ∙ ap (first_open i a0 a) (same_closed i j a0 a h fits)
