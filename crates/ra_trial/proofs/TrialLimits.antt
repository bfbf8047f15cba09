-- The instance of a trial is within the limits.
use Rattle.std.proofs.Common.{◌≡◌, ℕ, ◌*◌, ◌<◌, sym, ap, ap₂, ◌∙◌, arith}
use Rattle.ra_model.specs.declared.raw.Tables.{Tables}
use Rattle.ra_model.specs.Limits.{WellFormed}
use Rattle.ra_model.specs.Numbers as model
use Rattle.ra_trial.specs.InstanceNumbers.{HasNumbers}
use Rattle.ra_trial.specs.Instances.{IsTrial}
use Rattle.ra_trial.proofs.TrialNumbers.{HasLists, has_numbers, has_lists, needs_start}

module _ (g : ℕ → ℕ) (i : Tables) (is : IsTrial g i) where
  has : HasNumbers g i
  has = has_numbers g i is

  lists : HasLists i
  lists = has_lists g i is

  pub trial_fits : WellFormed i
  unfolding has lists
  trial_fits = record {
    some_resource = omega (arith, has.resources);
    few_resources = omega (arith, has.resources);
    some_machine = omega (arith, has.machines);
    few_machines = omega (arith, has.machines);
    some_service = omega (arith, has.services);
    few_services = omega (arith, has.services);
    some_process = omega (arith, has.processes);
    few_processes = omega (arith, has.processes);
    few_balances = omega (arith, has.balances);
    few_dependencies = omega (arith, lists.all_needs);
    capacities = lists.all_capacities ∙ sym (ap₂ (λ m r. m * r) has.machines has.resources);
    safeties = lists.all_safeties ∙ sym (ap₂ (λ m r. m * r) has.machines has.resources);
    way_costs = lists.all_way_costs ∙ sym (ap₂ (λ m n. m * n) has.machines has.machines);
    requirements = lists.all_requirements ∙ sym (ap₂ (λ p r. p * r) has.processes has.resources);
    in_order = λ s s_in. let within : s < 250 = omega (arith, has.services) in
        omega (arith, needs_start g i is s (omega arith), lists.needs_end s within);
    within = λ s s_in. let within : s < 250 = omega (arith, has.services) in
        omega (arith, lists.needs_end s within, lists.all_needs);
    all_owned = ap (model.dependency_start i) has.services ∙ needs_start g i is 250 (omega arith) ∙ sym lists.all_needs;
    needs = λ place place_in. let within : place < 50 = omega (arith, lists.all_needs) in
        omega (arith, lists.need_at place within, has.services);
    services = λ p p_in. let within : p < 1000 = omega (arith, has.processes) in
        omega (arith, has.service p within, has.services);
    firsts = λ b b_in. let only : b ≡ 0 = omega (arith, has.balances) in
        omega (arith, ap (model.first_of i) only, has.first, has.resources);
    seconds = λ b b_in. let only : b ≡ 0 = omega (arith, has.balances) in
        omega (arith, ap (model.second_of i) only, has.second, has.resources);
  }
