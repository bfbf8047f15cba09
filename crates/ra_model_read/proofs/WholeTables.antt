-- Tables that were read whole are those of an instance.
use Rattle.std.proofs.Common.{◌≡◌, ℕ, zero, suc, ◌≤◌, refl, ◌∙◌, length}
use Rattle.ra_model.specs.declared.raw.RawInstance.{RawInstance}
use Rattle.ra_model.specs.Limits.{WellFormed}
use Rattle.ra_model.specs.Numbers.{all_open, resource_count, machine_count, service_count, process_count, balance_count}
use Rattle.ra_model.specs.Numbers.{service_row, process_row, balance_row, dependency_end, dependency_start, need_at}
use Rattle.ra_model.specs.Numbers.{service_of, first_of, second_of}
use Rattle.ra_model_read.specs.TableShapes.{dependency_end_in, dependency_start_in, needed_in, row_service_in, first_in}
use Rattle.ra_model_read.specs.TableShapes.{second_in, AreBalances}
use Rattle.ra_model_read.specs.TableShapes.{IsMachines, IsServices, IsProcesses}

start_is : (raw : RawInstance) (s : ℕ) → dependency_start (all_open raw) s ≡ dependency_start_in raw.services.items s
unfolding dependency_start dependency_end service_row dependency_start_in dependency_end_in
start_is raw zero = refl
start_is raw (suc s) = refl

pub whole_read : (raw : RawInstance) (R S : ℕ) → R ≡ length raw.resources.items → S ≡ length raw.services.items
    → 1 ≤ length raw.resources.items → length raw.resources.items ≤ 20
    → IsMachines R (record {
      rows = raw.machines;
      capacities = raw.capacities;
      safeties = raw.safeties;
      move_costs = raw.move_costs;
    })
    → IsServices (record { rows = raw.services; dependencies = raw.dependencies })
    → IsProcesses S R (record { rows = raw.processes; requirements = raw.requirements })
    → length raw.balances.items ≤ 10 → AreBalances R raw.balances.items
    → WellFormed (all_open raw)
unfolding resource_count machine_count service_count process_count balance_count dependency_end service_row
    dependency_end_in need_at needed_in service_of process_row row_service_in first_of balance_row first_in second_of
    second_in
whole_read raw R S all_resources all_services some_resource few_resources machines services processes few_balances
    balances =
    let machines = rw all_resources at machines in
    let processes = rw (all_services, all_resources) at processes in
    let balances = rw all_resources at balances in
    record {
      some_resource = some_resource;
      few_resources = few_resources;
      some_machine = machines.some;
      few_machines = machines.has.few;
      some_service = services.some;
      few_services = services.few;
      some_process = processes.some;
      few_processes = processes.has.few;
      few_balances = few_balances;
      few_dependencies = services.has.dependencies.few;
      capacities = machines.has.capacities;
      safeties = machines.has.safeties;
      way_costs = machines.has.move_costs;
      requirements = processes.has.requirements;
      in_order = λ s within. rw (start_is raw s) (services.has.in_order s within);
      within = services.has.within;
      all_owned = start_is raw (length raw.services.items) ∙ services.has.all_owned;
      needs = services.has.dependencies.needs.each;
      services = processes.has.services;
      firsts = balances.firsts;
      seconds = balances.seconds;
    }
