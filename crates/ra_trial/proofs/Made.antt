-- An instance that has the numbers of a trial.
use Rattle.std.proofs.Common.{◌≡◌, ℕ, zero, suc, ◌+◌, ◌/◌, ◌%◌, ◌^◌, ◌<◌, min, eqb, lit<, List, [], ◌∷◌, ◌++◌, map}
use Rattle.std.proofs.Common.{refl, ap, ap₂, ◌∙◌, arith}
use Rattle.std.proofs.lemmas.List.{map-append}
use Rattle.ra_base.specs.Listed.{Listed}
use Rattle.ra_model.specs.declared.raw.MachineRow.{MachineRow}
use Rattle.ra_model.specs.declared.raw.ProcessRow.{ProcessRow}
use Rattle.ra_model.specs.declared.raw.RawInstance.{RawInstance}
use Rattle.ra_model.specs.declared.raw.ResourceRow.{ResourceRow}
use Rattle.ra_model.specs.declared.raw.ServiceRow.{ServiceRow}
use Rattle.ra_model.specs.Numbers.{all_open}
use Rattle.ra_model_read.specs.Lists.{of_resource, of_machine, service_numbers_of, of_process, lists_of}
use Rattle.ra_trial.specs.Lines.{listed}
use Rattle.ra_trial.specs.Numbers.{trial_requirement_of, trial_process_cost_of, trial_capacity_of, trial_safety_of}
use Rattle.ra_trial.specs.Numbers.{trial_way_cost_of, trial_spread_of}
use Rattle.ra_trial.specs.Instances.{table_of, trial_resource, trial_machine, trial_machines, trial_service, trial_need}
use Rattle.ra_trial.specs.Instances.{trial_services, trial_process, trial_processes, trial_balance, trial_lists}
use Rattle.ra_trial.specs.Instances.{IsTrial}
use Rattle.ra_trial.proofs.TrialBounds.{process_cost_low, spread_low}

-- the rows; those of numbers past the last are of no account
made_resource : ℕ → ResourceRow
made_resource r = record { transient = eqb r 0; load_weight = 10; small = lit< tt }

made_machine : ℕ → MachineRow
made_machine m = record {
  neighbourhood = min (m / 20) 4;
  location = m % 10;
  small_neighbourhood = omega arith;
  small_location = omega arith;
}

-- a list with room for no more
full : {X : Type 0} → ℕ → List X → Listed X
full room items = record { items = items; room = room }

map_listed : {X Y : Type 0} (f : X → Y) (n : ℕ) (h : ℕ → X) (k : ℕ → Y) → ((j : ℕ) → j < n → f (h j) ≡ k j) →
    map f (listed n h) ≡ listed n k
unfolding listed
map_listed f zero h k same = refl
map_listed f (suc n) h k same = map-append f (listed n h) _
    ∙ ap₂ (λ xs x. xs ++ x ∷ []) (map_listed f n h k (λ j within. same j (omega arith))) (same n (omega arith))

resources_made : map of_resource (listed 4 made_resource) ≡ listed 4 trial_resource
unfolding made_resource trial_resource
resources_made = map_listed of_resource 4 made_resource trial_resource (λ r within. refl)

machines_made : map of_machine (listed 100 made_machine) ≡ listed 100 trial_machine
unfolding made_machine trial_machine
machines_made = grind (arith, map_listed, made_machine)

made_service : (ℕ → ℕ) → ℕ → ServiceRow
made_service g s = record {
  spread_min = trial_spread_of g s;
  dependency_end = min (s / 5) 49 + 1;
  small_spread = omega (arith, spread_low g s);
  small_end = omega arith;
}

made_process : (ℕ → ℕ) → ℕ → ProcessRow
made_process g p =
    record {
      service = record { 0 = p / 4 };
      move_cost = trial_process_cost_of g p;
      small =
          omega (arith, process_cost_low g p);
    }

pub made : (ℕ → ℕ) → RawInstance
made g = record {
  resources = full 4 (listed 4 made_resource);
  machines = full 100 (listed 100 made_machine);
  capacities = full 400 (table_of 100 4 (trial_capacity_of g));
  safeties = full 400 (table_of 100 4 (trial_safety_of g));
  move_costs = full 10000 (table_of 100 100 trial_way_cost_of);
  services = full 250 (listed 250 (made_service g));
  dependencies = full 50 (listed 50 trial_need);
  processes = full 1000 (listed 1000 (made_process g));
  requirements = full 4000 (table_of 1000 4 (trial_requirement_of g));
  balances = full 1 (record {
    first = record { 0 = 0 };
    second = record { 0 = 1 };
    target = 2;
    weight = 10;
    small_target = lit< tt;
    small_weight = lit< tt;
  } ∷ []);
  process_weight = 1;
  service_weight = 10;
  machine_weight = 100;
  small_process_weight = lit< tt;
  small_service_weight = lit< tt;
  small_machine_weight = lit< tt;
}

module _ (g : ℕ → ℕ) where
  services_made : map service_numbers_of (listed 250 (made_service g)) ≡ listed 250 (trial_service g)
  unfolding made_service trial_service
  services_made = grind (arith, map_listed, made_service)

  processes_made : map of_process (listed 1000 (made_process g)) ≡ listed 1000 (trial_process g)
  unfolding made_process trial_process
  processes_made = map_listed of_process 1000 (made_process g) _ (λ p within. refl)

  pub made_is_trial : IsTrial g (all_open (made g))
  unfolding made full trial_lists trial_machines trial_services trial_processes trial_balance
  made_is_trial = record {
    lists = cc (resources_made, machines_made, services_made, processes_made);
    open_to_all = refl;
  }
