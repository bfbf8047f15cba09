-- From the lists of a trial's instance to its numbers.
use Rattle.std.proofs.Common.{inl, inr, ◌≡◌, ◌≢◌, ℕ, zero, suc, ◌+◌, ◌-◌, ◌*◌, ◌/◌, ◌%◌, ◌<◌, ◌≤◌, cond, eqb, false}
use Rattle.std.proofs.Common.{List, []}
use Rattle.std.proofs.Common.{◌∷◌, length, map, get_or, refl, sym, ap, ap₂, ◌∙◌, arith, eq-eqb, ne_eqb}
use Rattle.std.proofs.lemmas.Bool.{cases_eq, cond-true, cond-false}
use Rattle.std.proofs.lemmas.List.{length-map}
use Rattle.ra_base.specs.declared.ids.Service.{Service}
use Rattle.ra_model.specs.declared.raw.Tables.{Tables}
use Rattle.ra_model.specs.Numbers as model
use Rattle.ra_model_read.specs.Lists.{of_resource, of_machine, service_numbers_of, of_process, of_balance}
use Rattle.ra_trial.specs.Lines.{listed}
use Rattle.ra_trial.specs.Numbers.{trial_requirement_of, trial_capacity_of, trial_safety_of, trial_way_cost_of}
use Rattle.ra_trial.specs.InstanceNumbers.{HasNumbers}
use Rattle.ra_trial.specs.Instances.{trial_resource, trial_machine, trial_machines, trial_service, trial_need}
use Rattle.ra_trial.specs.Instances.{trial_services, trial_process, trial_processes, trial_balance, trial_lists}
use Rattle.ra_trial.specs.Instances.{table_of, IsTrial}
use Rattle.ra_trial.proofs.LineLemmas.{length_listed, listed_at}
use Rattle.ra_trial.proofs.TableRows.{rows_many, row_is, table_many, cell_at}

-- how long the lists are, and where the dependencies of each service end
pub record HasLists (i : Tables) : Type 0 where
  pub all_needs : length i.raw.dependencies.items ≡ 50
  pub all_capacities : length i.raw.capacities.items ≡ 400
  pub all_safeties : length i.raw.safeties.items ≡ 400
  pub all_way_costs : length i.raw.move_costs.items ≡ 10000
  pub all_requirements : length i.raw.requirements.items ≡ 4000
  pub needs_end : (s : ℕ) → s < 250 → model.dependency_end i s ≡ s / 5 + 1
  pub need_at : (k : ℕ) → k < 50 → model.need_at i k ≡ (5 * k + 25) % 250

module _ (g : ℕ → ℕ) (i : Tables) (is : IsTrial g i) where
  resource_rows : map of_resource i.raw.resources.items ≡ listed 4 trial_resource
  unfolding trial_lists
  resource_rows = ap (λ l. l.resources) is.lists

  machine_rows : map of_machine i.raw.machines.items ≡ listed 100 trial_machine
  unfolding trial_lists trial_machines
  machine_rows = ap (λ l. l.machines.rows) is.lists

  capacity_table : i.raw.capacities.items ≡ table_of 100 4 (trial_capacity_of g)
  unfolding trial_lists trial_machines
  capacity_table = ap (λ l. l.machines.capacities) is.lists

  safety_table : i.raw.safeties.items ≡ table_of 100 4 (trial_safety_of g)
  unfolding trial_lists trial_machines
  safety_table = ap (λ l. l.machines.safeties) is.lists

  way_cost_table : i.raw.move_costs.items ≡ table_of 100 100 trial_way_cost_of
  unfolding trial_lists trial_machines
  way_cost_table = ap (λ l. l.machines.move_costs) is.lists

  service_rows : map service_numbers_of i.raw.services.items ≡ listed 250 (trial_service g)
  unfolding trial_lists trial_services
  service_rows = ap (λ l. l.services.rows) is.lists

  need_list : i.raw.dependencies.items ≡ listed 50 trial_need
  unfolding trial_lists trial_services
  need_list = ap (λ l. l.services.dependencies) is.lists

  process_rows : map of_process i.raw.processes.items ≡ listed 1000 (trial_process g)
  unfolding trial_lists trial_processes
  process_rows = ap (λ l. l.processes.rows) is.lists

  requirement_table : i.raw.requirements.items ≡ table_of 1000 4 (trial_requirement_of g)
  unfolding trial_lists trial_processes
  requirement_table = ap (λ l. l.processes.requirements) is.lists

  balance_rows : map of_balance i.raw.balances.items ≡ trial_balance ∷ []
  unfolding trial_lists
  balance_rows = ap (λ l. l.balances) is.lists

  one_balance : map of_balance i.raw.balances.items ≡ listed 1 (λ k. trial_balance)
  unfolding listed
  one_balance = balance_rows

  resource_many : model.resource_count i ≡ 4
  unfolding model.resource_count
  resource_many = rows_many _ _ _ resource_rows

  machine_many : model.machine_count i ≡ 100
  unfolding model.machine_count
  machine_many = rows_many _ _ _ machine_rows

  is_open : (m : ℕ) → model.closed_at i m ≡ false
  unfolding model.closed_at model.flag_in
  is_open m = rw is.open_to_all

  pub has_lists : HasLists i
  unfolding model.service_row model.dependency_end model.need_at trial_service trial_need
  has_lists = record {
    all_needs = ap length need_list ∙ length_listed 50 trial_need;
    all_capacities = ap length capacity_table ∙ table_many _ _ _;
    all_safeties = ap length safety_table ∙ table_many _ _ _;
    all_way_costs = ap length way_cost_table ∙ table_many _ _ _;
    all_requirements = ap length requirement_table ∙ table_many _ _ _;
    needs_end = λ s within.
        ap (λ row. row.dependency_end)
        (row_is _ _ _ _ service_rows within);
    need_at = λ k within. ap (λ (all : List Service). (get_or all k (record { 0 = 0 })).0) need_list
        ∙ ap (λ service. service.0) (listed_at 50 trial_need k (record { 0 = 0 }) within);
  }

  -- where the dependencies of a service start, how many it has, and the one that it has
  pub needs_start : (s : ℕ) → s ≤ 250 → model.dependency_start i s ≡ (s + 4) / 5
  unfolding model.dependency_start
  needs_start zero within = refl
  needs_start (suc s) within = omega (arith, has_lists.needs_end s (omega arith))

  needs_counted : (s : ℕ) → s < 250 → model.dependency_count i s ≡ s / 5 + 1 - (s + 4) / 5
  unfolding model.dependency_count
  needs_counted s within = ap₂ (λ a b. a - b) (has_lists.needs_end s within) (needs_start s (omega arith))

  fifths_need : (s : ℕ) → s < 250 → model.dependency_count i s ≡ cond (eqb (s % 5) 0) 1 0
  fifths_need s within = elim (cases_eq (s % 5) 0) [
    | inl fifth ↦ omega (arith, needs_counted s within, cond-true {A = ℕ} (eqb _ 0) 1 0 (eq-eqb (s % 5) 0 fifth))
    | inr other ↦ omega (arith, needs_counted s within, cond-false {A = ℕ} (eqb _ 0) 1 0 (ne_eqb (s % 5) 0 other))
  ]

  need_is : (s k : ℕ) → s < 250 → k < model.dependency_count i s → model.need_of i s k ≡ (s + 25) % 250
  unfolding model.need_of
  need_is s k within below =
      let count = needs_counted s within in
      let place : model.dependency_start i s + k ≡ s / 5 = omega (arith, needs_start s (omega arith)) in
      let owner : 5 * (s / 5) ≡ s = omega arith in
      ap (model.need_at i) place ∙ has_lists.need_at _ (omega arith) ∙ ap (λ n. (n + 25) % 250) owner

  pub has_numbers : HasNumbers g i
  unfolding model.service_count model.process_count model.balance_count model.resource_row model.machine_row
      model.service_row model.process_row model.balance_row model.transient_at model.load_weight_of
      model.neighbourhood_of model.location_of model.capacity_of model.safety_of model.way_cost_of model.spread_of
      model.service_of model.requirement_of model.process_cost_of model.first_of model.second_of model.target_of
      model.balance_weight_of model.process_weight_of model.service_weight_of model.machine_weight_of trial_resource
      trial_machine trial_service trial_process trial_balance trial_lists
  has_numbers = record {
    resources = resource_many;
    machines = machine_many;
    services = rows_many _ _ _ service_rows;
    processes = rows_many _ _ _ process_rows;
    balances = sym (length-map i.raw.balances.items of_balance) ∙ ap length balance_rows;
    transient = λ r within.
        ap (λ row. row.transient) (row_is _ _ _ _ resource_rows within);
    load_weight =
        λ r within. ap (λ row. row.load_weight)
        (row_is _ _ _ _ resource_rows within);
    neighbourhood =
        λ m within. ap (λ row. row.neighbourhood)
        (row_is _ _ _ _ machine_rows within);
    location = λ m within.
        ap (λ row. row.location) (row_is _ _ _ _ machine_rows within);
    capacity = λ m r m_in r_in. cell_at _ resource_many capacity_table m_in r_in;
    safety = λ m r m_in r_in. cell_at _ resource_many safety_table m_in r_in;
    move_cost = λ a b a_in b_in. cell_at trial_way_cost_of machine_many way_cost_table a_in b_in;
    spread = λ s within.
        ap (λ row. row.spread_min)
        (row_is _ _ _ _ service_rows within);
    dependencies = fifths_need;
    need = need_is;
    service = λ p within.
        ap (λ row. row.service.0)
        (row_is _ _ _ _ process_rows within);
    requirement = λ p r p_in r_in. cell_at _ resource_many requirement_table p_in
        r_in;
    process_cost =
        λ p within. ap (λ row. row.move_cost)
        (row_is _ _ _ _ process_rows within);
    first = ap (λ row. row.first.0)
        (row_is _ _ _ _ one_balance (omega arith));
    second = ap (λ row. row.second.0)
        (row_is _ _ _ _ one_balance (omega arith));
    target = ap (λ row. row.target)
        (row_is _ _ _ _ one_balance (omega arith));
    balance_weight =
        ap (λ row. row.weight)
        (row_is _ _ _ _ one_balance (omega arith));
    process_weight = ap (λ l. l.weights.process) is.lists;
    service_weight = ap (λ l. l.weights.service) is.lists;
    machine_weight = ap (λ l. l.weights.machine) is.lists;
    open_to_all = is_open;
  }
