-- Instances that are the same but for the rooms of their lists repair alike: no definition looks at a room.
use Rattle.std.proofs.Common.{◌≡◌, ℕ, zero, Bool, List, Option, Some, None, refl, sym, ◌∙◌, ap}
use Rattle.ra_base.specs.Listed.{Listed}
use Rattle.ra_base.specs.declared.ids.Machine.{Machine}
use Rattle.ra_draws.specs.declared.sources.Lot.{Lot}
use Rattle.ra_model.specs.declared.raw.RawInstance.{RawInstance}
use Rattle.ra_model.specs.declared.raw.Tables.{Tables}
use Rattle.ra_model.specs.Broken.{capacity_test, row_capacity, broken_capacity, transient_test, row_transient, broken_transient, conflict_test, service_conflict, broken_conflict, spread_test, broken_spread, near_of, far_test, dependency_test, pair_dependency, service_dependency, broken_dependency, closed_test, broken_closed, first_broken}
use Rattle.ra_model.specs.Costs.{excess_on, load_part, load_cost, available, shortfall, balance_part, balance_cost, process_share, process_cost, service_cost, way_share, machine_cost, objective, parts_of}
use Rattle.ra_model.specs.Numbers.{resource_row, machine_row, service_row, process_row, balance_row, resource_count, machine_count, service_count, process_count, balance_count, transient_at, load_weight_of, neighbourhood_of, location_of, capacity_of, safety_of, way_cost_of, spread_of, dependency_end, dependency_start, dependency_count, need_at, need_of, service_of, requirement_of, process_cost_of, first_of, second_of, target_of, balance_weight_of, process_weight_of, service_weight_of, machine_weight_of, flag_in, closed_at}
use Rattle.ra_model.specs.Services.{is_of, of_service, members_at, on_machine, in_neighbourhood, in_location, locations_of, moved_of}
use Rattle.ra_model.specs.Usage.{use_share, use_of, transient_share, transient_of}
use Rattle.ra_repair.specs.Penalty.{use_above, row_above, capacity_penalty, transient_above, row_transient_above, transient_penalty, crowd_on, service_crowd, conflict_penalty, spread_lack, spread_penalty, far_share, pair_far, service_far, dependency_penalty, closed_share, closed_penalty, penalty}
use Rattle.ra_repair.specs.Runs.{try_count, try_option, penalty_by, option_penalty, least_after, chosen, try_with, try_at, next_try, repaired_by, repair_run}
use Rattle.ra_jobs.proofs.RowLemmas.{raw_of, bare_raw}
use Rattle.ra_jobs.proofs.BareLemmas.{bare, bare_closed}

-- a list of names: a lemma that unfolds it unfolds the numbers of an instance, its constraints and its costs
unfoldable pub opened : ℕ
unfolding raw_of bare_raw bare_closed resource_row machine_row service_row process_row balance_row resource_count
    machine_count service_count process_count balance_count transient_at load_weight_of neighbourhood_of location_of
    capacity_of safety_of way_cost_of spread_of dependency_end dependency_start dependency_count need_at need_of
    service_of requirement_of process_cost_of first_of second_of target_of balance_weight_of process_weight_of
    service_weight_of machine_weight_of flag_in closed_at use_share use_of transient_share transient_of is_of of_service
    members_at on_machine in_neighbourhood in_location locations_of moved_of capacity_test row_capacity broken_capacity
    transient_test row_transient broken_transient conflict_test service_conflict broken_conflict spread_test
    broken_spread near_of far_test dependency_test pair_dependency service_dependency broken_dependency closed_test
    broken_closed first_broken excess_on load_part load_cost available shortfall balance_part balance_cost process_share
    process_cost service_cost way_share machine_cost objective parts_of
opened = zero

-- an instance of the lists of a model file, and of the flags of a closed list
abbrev pub whole : RawInstance → Option (Listed Bool) → Tables
whole raw closed = record { raw = raw; closed = closed }

-- rooms don't matter

repair_bare : (raw : RawInstance) (closed : Option (Listed Bool)) (a0 : List Machine) (lot : Lot) →
    repair_run (bare (whole raw closed)) a0 lot ≡ repair_run (whole raw closed) a0 lot
unfolding opened use_above row_above capacity_penalty transient_above row_transient_above transient_penalty crowd_on
    service_crowd conflict_penalty spread_lack spread_penalty far_share pair_far service_far dependency_penalty
    closed_share closed_penalty penalty try_count try_option penalty_by option_penalty least_after chosen try_with
    try_at next_try repaired_by repair_run
repair_bare raw None a0 lot = refl
repair_bare raw (Some flags) a0 lot = refl

pub along : {X : Type 0} (f : Tables → X) → ((raw : RawInstance) (closed : Option (Listed Bool)) →
    f (bare (whole raw closed)) ≡ f (whole raw closed)) → (i j : Tables) → bare i ≡ bare j → f i ≡ f j
along f unchanged i j same = sym (unchanged i.raw i.closed) ∙ ap f same ∙ unchanged j.raw j.closed

-- a repair tries the same
pub repaired_same : (i j : Tables) → bare i ≡ bare j → (a0 : List Machine) (lot : Lot) →
    repair_run i a0 lot ≡ repair_run j a0 lot
repaired_same i j same a0 lot =
    along (λ t. repair_run t a0 lot) (λ raw closed. repair_bare raw closed a0 lot) i j same
