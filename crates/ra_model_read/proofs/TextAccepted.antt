-- The numbers of a well-formed instance, in field order, are accepted as that instance.
use Rattle.std.proofs.Common.{◌≡◌, ℕ, suc, ◌+◌, ◌-◌, ◌*◌, ◌<◌, ◌≤◌, refl, ap, ap₂, ◌∙◌, sym, subst, List, [], ◌∷◌, ◌++◌}
use Rattle.std.proofs.Common.{length, map, take, get_or, Ok, arith, add-zero, add-one, length-take}
use Rattle.std.proofs.lemmas.List.{append-nil, take_more, map-append, length-map, take_all}
use Rattle.ra_base.specs.Tables.{cell}
use Rattle.ra_model.specs.declared.raw.RawInstance.{RawInstance}
use Rattle.ra_model.specs.Limits.{WellFormed}
use Rattle.ra_model.specs.Numbers.{all_open, resource_row, machine_row, service_row, process_row, balance_row}
use Rattle.ra_model.specs.Numbers.{resource_count, machine_count, service_count, process_count, balance_count}
use Rattle.ra_model.specs.Numbers.{transient_at, load_weight_of, neighbourhood_of, location_of, capacity_of, safety_of}
use Rattle.ra_model.specs.Numbers.{way_cost_of, spread_of, dependency_start, dependency_end, dependency_count, need_at}
use Rattle.ra_model.specs.Numbers.{need_of, service_of, requirement_of, process_cost_of, first_of, second_of, target_of}
use Rattle.ra_model.specs.Numbers.{balance_weight_of, process_weight_of, service_weight_of, machine_weight_of}
use Rattle.ra_token.specs.TokenList.{tokens}
use Rattle.ra_model_read.specs.declared.faults.Field.{Field}
use Rattle.ra_model_read.specs.declared.faults.Field.TheVariants.{ResourceCount, LoadWeight, MachineCount}
use Rattle.ra_model_read.specs.declared.faults.Field.TheVariants.{Neighbourhood, Location, Capacity, Safety, MoveCost}
use Rattle.ra_model_read.specs.declared.faults.Field.TheVariants.{ServiceCount, SpreadMin, DependencyCount, Dependency}
use Rattle.ra_model_read.specs.declared.faults.Field.TheVariants.{ProcessCount, ProcessService, Requirement}
use Rattle.ra_model_read.specs.declared.faults.Field.TheVariants.{ProcessCost, BalanceCount, BalanceFirst}
use Rattle.ra_model_read.specs.declared.faults.Field.TheVariants.{BalanceSecond, BalanceTarget, BalanceWeight}
use Rattle.ra_model_read.specs.declared.faults.Field.TheVariants.{ProcessWeight, ServiceWeight, MachineWeight}
use Rattle.ra_model_read.specs.Formats.{Format, pure, along, number_more, numbers, ends}
use Rattle.ra_model_read.specs.Lists.{MachineLists, ServiceLists, ProcessLists, of_resource, of_machine}
use Rattle.ra_model_read.specs.Lists.{service_numbers_of}
use Rattle.ra_model_read.specs.Lists.{of_process, of_balance, lists_of}
use Rattle.ra_model_read.specs.ModelText.{resource, resources, machine, machines, dependency, service, services}
use Rattle.ra_model_read.specs.ModelText.{process, processes, balance, balances, weights, rest, model, all_of}
use Rattle.ra_model_read.specs.ModelText.{answer_of, model_of}
use Rattle.ra_model_read.specs.FieldOrder.{end_to_end, row_numbers, with_count, resource_numbers, machine_numbers, service_numbers}
use Rattle.ra_model_read.specs.FieldOrder.{process_numbers, balance_numbers, all_numbers_of, IsTextOf}
use Rattle.ra_model_read.proofs.Acceptance.{Accepts, accepts_bind, accepts_then, accepts_any, accepts_field}
use Rattle.ra_model_read.proofs.Acceptance.{accepts_flag, accepts_along, nothing, AcceptsTo, bind_to, then_to, ends_to}

accepts_steps : {X : Type 0} (step : ℕ → X → Format X) (made : ℕ → X) (text : ℕ → List ℕ) (n : ℕ) (x y : X) →
    made 0 ≡ x → made n ≡ y → ((k : ℕ) → k < n → Accepts (step k (made k)) (text k) (made (suc k))) →
    Accepts (along n step x) (end_to_end n text) y
accepts_steps step made text n x y from to each = subst (λ z. Accepts (along n step z) (end_to_end n text) y) from
    (subst (Accepts (along n step (made 0)) (end_to_end n text)) to (accepts_along step made text n each))

-- one more of a list

pub front_more : {X : Type 0} (xs : List X) (k : ℕ) (d : X) → k < length xs →
    take k xs ++ get_or xs k d ∷ [] ≡ take (suc k) xs
front_more xs k d within = sym (take_more xs k d within) ∙ ap (λ n. take n xs) (add-one k)

pub row_more : {X Y : Type 0} (f : X → Y) (rows : List X) (k : ℕ) (d : X) → k < length rows →
    map f (take k rows) ++ f (get_or rows k d) ∷ [] ≡ map f (take (suc k) rows)
row_more f rows k d within =
    sym (ap (map f) (sym (front_more rows k d within)) ∙ map-append f (take k rows) (get_or rows k d ∷ []))

pub all_rows : {X Y : Type 0} (f : X → Y) (rows : List X) → map f (take (length rows) rows) ≡ map f rows
all_rows f rows = ap (map f) (take_all (length rows) rows (omega arith))

-- a row of a table

later : (m j : ℕ) → suc (m + j) ≡ m + suc j
later m j = omega arith

row_accepted : (what : Field) (m w M : ℕ) (T : List ℕ) → m < M → length T ≡ M * w →
    Accepts (numbers what (m * w) w (take (m * w) T)) (row_numbers w (λ j. get_or T (m * w + j) 0)) (take (suc m * w) T)
unfolding numbers number_more
row_accepted what m w M T below full =
    let ends : m * w + w ≡ suc m * w = omega arith in
    let fits : suc m * w ≤ length T = grind arith in
    let within : m * w + w ≤ length T = omega (arith, ends, fits) in
    accepts_steps (number_more what (m * w)) (λ k. take (m * w + k) T) (λ k. get_or T (m * w + k) 0 ∷ []) w
    (take (m * w) T) (take (suc m * w) T)
    (ap (λ n. take n T) (add-zero (m * w)))
    (ap (λ n. take n T) ends)
    (λ k below. accepts_then _ (accepts_any what (m * w + k) (get_or T (m * w + k) 0)) (ap pure
    (front_more T (m * w + k) 0 (omega (arith, within)) ∙ ap (λ n. take n T) (later (m * w) k))))

no_row : (w : ℕ) → 0 * w ≡ 0
no_row w = omega arith

front_length : {X : Type 0} (xs : List X) (n : ℕ) → n ≤ length xs → length (take n xs) ≡ n
front_length xs n few = grind (arith, length-take)

-- the lists of the first machines, services and processes

unfoldable machines_to : RawInstance → ℕ → MachineLists
machines_to raw m = record {
  rows = map of_machine (take m raw.machines.items);
  capacities = take (m * length raw.resources.items) raw.capacities.items;
  safeties = take (m * length raw.resources.items) raw.safeties.items;
  move_costs = take (m * length raw.machines.items) raw.move_costs.items;
}

unfoldable services_to : RawInstance → ℕ → ServiceLists
services_to raw s = record {
  rows = map service_numbers_of (take s raw.services.items);
  dependencies = take (dependency_start (all_open raw) s) raw.dependencies.items;
}

unfoldable processes_to : RawInstance → ℕ → ProcessLists
processes_to raw p = record {
  rows = map of_process (take p raw.processes.items);
  requirements = take (p * length raw.resources.items) raw.requirements.items;
}

accepts_same : {X : Type 0} {f g : Format X} {u : List ℕ} {x : X} → f ≡ g → Accepts f u x → Accepts g u x
accepts_same {X} {f} {g} {u} {x} e h = subst (λ k. Accepts k u x) e h

all_same : {X : Type 0} {f g : Format X} {u : List ℕ} {x : X} → f ≡ g → AcceptsTo nothing f u x →
    AcceptsTo nothing g u x
all_same {X} {f} {g} {u} {x} e h = subst (λ k. AcceptsTo nothing k u x) e h

module _ (raw : RawInstance) (h : WellFormed (all_open raw)) where
  -- resources

  resource_accepted : (r : ℕ) → r < length raw.resources.items →
      Accepts (resource r (map of_resource (take r raw.resources.items))) (resource_numbers (all_open raw) r)
      (map of_resource (take (suc r) raw.resources.items))
  unfolding resource resource_numbers transient_at load_weight_of resource_row
  resource_accepted r within = accepts_bind _ (accepts_flag r (transient_at (all_open raw) r))
      (accepts_then _ (accepts_any LoadWeight r (load_weight_of (all_open raw) r))
      (ap pure (row_more of_resource raw.resources.items r _ within)))

  resources_accepted : Accepts resources
      (with_count (resource_count (all_open raw)) (resource_numbers (all_open raw)))
      (map of_resource raw.resources.items)
  unfolding resources resource_count
  resources_accepted =
      accepts_bind _ (accepts_field ResourceCount 0 1 20 (length raw.resources.items) h.some_resource h.few_resources)
      (accepts_steps resource (λ k. map of_resource (take k raw.resources.items)) (resource_numbers (all_open raw))
      (length raw.resources.items) [] (map of_resource raw.resources.items) refl
      (all_rows of_resource raw.resources.items) resource_accepted)

  -- machines

  machine_accepted : (m : ℕ) → m < length raw.machines.items →
      Accepts (machine (length raw.resources.items) (length raw.machines.items) m (machines_to raw m))
      (machine_numbers (all_open raw) m) (machines_to raw (suc m))
  unfolding machine machine_numbers machines_to neighbourhood_of location_of machine_row capacity_of safety_of
      way_cost_of cell resource_count machine_count
  machine_accepted m within =
      let R = length raw.resources.items in
      let M = length raw.machines.items in
      accepts_bind _ (accepts_any Neighbourhood m (neighbourhood_of (all_open raw) m))
      (accepts_bind _ (accepts_any Location m (location_of (all_open raw) m))
      (accepts_bind _ (row_accepted Capacity m R M raw.capacities.items within h.capacities)
      (accepts_bind _ (row_accepted Safety m R M raw.safeties.items within h.safeties)
      (accepts_then _ (row_accepted MoveCost m M M raw.move_costs.items within h.way_costs)
      (rw (row_more of_machine raw.machines.items m _ within) refl)))))

  machines_accepted : Accepts (machines (length raw.resources.items))
      (with_count (machine_count (all_open raw)) (machine_numbers (all_open raw))) (lists_of raw).machines
  unfolding machines machine_count resource_count machines_to
  machines_accepted =
      let R = length raw.resources.items in
      let M = length raw.machines.items in
      accepts_bind _ (accepts_field MachineCount 0 1 5000 M h.some_machine h.few_machines)
      (accepts_steps (machine R M) (machines_to raw) (machine_numbers (all_open raw)) M _ _
      (rw (no_row R, no_row M) refl)
      (rw (
        all_rows of_machine raw.machines.items,
        take_all (M * R) raw.capacities.items (omega (arith, h.capacities)),
        take_all (M * R) raw.safeties.items (omega (arith, h.safeties)),
        take_all (M * M) raw.move_costs.items (omega (arith, h.way_costs)),
      ) refl) machine_accepted)

  -- services

  dependencies_accepted : (first n last : ℕ) → first + n ≡ last → last ≤ length raw.dependencies.items →
      Accepts (along n (dependency (service_count (all_open raw)) first) (take first raw.dependencies.items))
      (row_numbers n (λ k. need_at (all_open raw) (first + k))) (take last raw.dependencies.items)
  unfolding dependency need_at
  dependencies_accepted first n last ends within =
      let T = raw.dependencies.items in
      accepts_steps (dependency (service_count (all_open raw)) first) (λ k. take (first + k) T)
      (λ k. need_at (all_open raw) (first + k) ∷ []) n (take first T) (take last T)
      (ap (λ m. take m T) (add-zero first))
      (ap (λ m. take m T) ends)
      (λ k below. accepts_then _
      (accepts_field Dependency (first + k) 0 (service_count (all_open raw) - 1) (need_at (all_open raw) (first + k))
      (omega arith) (omega (arith, h.needs (first + k) (omega arith)))) (ap pure
      (front_more T (first + k) (record { 0 = 0 }) (omega arith) ∙ ap (λ m. take m T) (later first k))))

  service_accepted : (s : ℕ) → s < length raw.services.items →
      Accepts (service (length raw.services.items) s (services_to raw s)) (service_numbers (all_open raw) s)
      (services_to raw (suc s))
  unfolding service service_numbers services_to spread_of dependency_count dependency_start need_of service_count
      service_row dependency_end
  service_accepted s within =
      rw (front_length raw.dependencies.items (dependency_start (all_open raw) s)
      (omega (arith, h.in_order s within, h.within s within)))
      (accepts_bind _ (accepts_any SpreadMin s (spread_of (all_open raw) s))
      (accepts_bind _
      (accepts_field DependencyCount s 0 (100000 - dependency_start (all_open raw) s)
      (dependency_count (all_open raw) s) (omega arith)
      (omega (arith, h.in_order s within, h.within s within, h.few_dependencies)))
      (accepts_then _ (dependencies_accepted (dependency_start (all_open raw) s) (dependency_count (all_open raw) s)
      (dependency_end (all_open raw) s) (omega (arith, h.in_order s within)) (h.within s within))
      (rw (
        front_length raw.dependencies.items (dependency_end (all_open raw) s) (h.within s within),
        row_more service_numbers_of raw.services.items s _ within,
      ) refl))))

  services_accepted : Accepts services
      (with_count (service_count (all_open raw)) (service_numbers (all_open raw))) (lists_of raw).services
  unfolding services service_count services_to dependency_start
  services_accepted =
      accepts_bind _ (accepts_field ServiceCount 0 1 50000 (length raw.services.items) h.some_service h.few_services)
      (accepts_steps (service (length raw.services.items)) (services_to raw) (service_numbers (all_open raw))
      (length raw.services.items) _ _ refl
      (rw (
        all_rows service_numbers_of raw.services.items,
        take_all (dependency_start (all_open raw) (length raw.services.items))
            raw.dependencies.items (omega (arith, h.all_owned)),
      ) refl) service_accepted)

  -- processes

  process_accepted : (p : ℕ) → p < length raw.processes.items →
      Accepts (process (length raw.services.items) (length raw.resources.items) p (processes_to raw p))
      (process_numbers (all_open raw) p) (processes_to raw (suc p))
  unfolding process process_numbers processes_to service_of process_row requirement_of process_cost_of cell
      resource_count service_count process_count
  process_accepted p within =
      accepts_bind _ (accepts_field ProcessService p 0 (length raw.services.items - 1) (service_of (all_open raw) p)
      (omega arith) (omega (arith, h.services p within)))
      (accepts_bind _ (row_accepted Requirement p (length raw.resources.items) (length raw.processes.items)
      raw.requirements.items within h.requirements)
      (accepts_then _ (accepts_any ProcessCost p (process_cost_of (all_open raw) p))
      (ap (λ rows. pure (record {
        rows = rows;
        requirements = take (suc p * length raw.resources.items) raw.requirements.items;
      })) (row_more of_process raw.processes.items p _ within))))

  processes_accepted : Accepts (processes (length raw.services.items) (length raw.resources.items))
      (with_count (process_count (all_open raw)) (process_numbers (all_open raw))) (lists_of raw).processes
  unfolding processes process_count resource_count processes_to
  processes_accepted =
      let R = length raw.resources.items in
      let P = length raw.processes.items in
      accepts_bind _ (accepts_field ProcessCount 0 1 50000 P h.some_process h.few_processes)
      (accepts_steps (process (length raw.services.items) R) (processes_to raw) (process_numbers (all_open raw)) P _ _
      (rw (no_row R) refl)
      (rw (
        all_rows of_process raw.processes.items,
        take_all (P * R) raw.requirements.items (omega (arith, h.requirements)),
      ) refl) process_accepted)

  -- balance objectives

  balance_accepted : (b : ℕ) → b < length raw.balances.items →
      Accepts (balance (length raw.resources.items) b (map of_balance (take b raw.balances.items)))
      (balance_numbers (all_open raw) b) (map of_balance (take (suc b) raw.balances.items))
  unfolding balance balance_numbers first_of second_of target_of balance_weight_of balance_row resource_count
      balance_count
  balance_accepted b within =
      accepts_bind _ (accepts_field BalanceFirst b 0 (length raw.resources.items - 1) (first_of (all_open raw) b)
      (omega arith) (omega (arith, h.firsts b within)))
      (accepts_bind _ (accepts_field BalanceSecond b 0 (length raw.resources.items - 1) (second_of (all_open raw) b)
      (omega arith) (omega (arith, h.seconds b within)))
      (accepts_bind _ (accepts_any BalanceTarget b (target_of (all_open raw) b))
      (accepts_then _ (accepts_any BalanceWeight b (balance_weight_of (all_open raw) b))
      (ap pure (row_more of_balance raw.balances.items b _ within)))))

  balances_accepted : Accepts (balances (length raw.resources.items))
      (with_count (balance_count (all_open raw)) (balance_numbers (all_open raw))) (map of_balance raw.balances.items)
  unfolding balances balance_count
  balances_accepted =
      accepts_bind _ (accepts_field BalanceCount 0 0 10 (length raw.balances.items) (omega arith) h.few_balances)
      (accepts_steps (balance (length raw.resources.items)) (λ k. map of_balance (take k raw.balances.items))
      (balance_numbers (all_open raw)) (length raw.balances.items) [] (map of_balance raw.balances.items) refl
      (all_rows of_balance raw.balances.items) balance_accepted)

  -- the weights, and all

  weights_accepted : Accepts weights
      (process_weight_of (all_open raw) ∷ service_weight_of (all_open raw) ∷ machine_weight_of (all_open raw) ∷ [])
      (lists_of raw).weights
  unfolding weights process_weight_of service_weight_of machine_weight_of
  weights_accepted = accepts_bind _ (accepts_any ProcessWeight 0 raw.process_weight)
      (accepts_bind _ (accepts_any ServiceWeight 0 raw.service_weight)
      (accepts_then _ (accepts_any MachineWeight 0 raw.machine_weight) refl))

  rest_accepted : AcceptsTo nothing (rest (length raw.services.items) (length raw.resources.items))
      (with_count (process_count (all_open raw)) (process_numbers (all_open raw))
      ++ (with_count (balance_count (all_open raw)) (balance_numbers (all_open raw))
      ++ (process_weight_of (all_open raw) ∷ service_weight_of (all_open raw) ∷ machine_weight_of (all_open raw) ∷ [])))
      (record {
        processes = (lists_of raw).processes;
        balances = (lists_of raw).balances;
        weights = (lists_of raw).weights;
      })
  unfolding rest
  rest_accepted = bind_to _ processes_accepted (bind_to _ balances_accepted (bind_to _ weights_accepted
      (ends_to _ _ refl)))

  pub all_accepted : AcceptsTo nothing model (all_numbers_of (all_open raw)) (lists_of raw)
  unfolding model all_numbers_of
  all_accepted =
      let R = sym (length-map raw.resources.items of_resource) in
      let S = sym (length-map raw.services.items service_numbers_of) in
      bind_to _ resources_accepted
      (bind_to _ (accepts_same (ap machines R) machines_accepted)
      (bind_to _ services_accepted
      (then_to _ (all_same (ap₂ rest S R) rest_accepted) refl)))

pub text_accepted : (raw : RawInstance) (bytes : List ℕ) → WellFormed (all_open raw) → IsTextOf bytes (all_open raw) →
    model_of bytes ≡ Ok (lists_of raw)
unfolding model_of all_of answer_of
text_accepted raw bytes h text =
    rw (text.sound, ← append-nil (tokens bytes), (all_accepted raw h).takes (tokens bytes) text.numbers) refl
