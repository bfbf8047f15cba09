-- Whatever the format of a model reads is an instance within the limits.
use Rattle.std.proofs.Common.{◌≡◌, ℕ, zero, suc, ◌<◌, ◌≤◌, refl, ◌∙◌, sym, subst, List, [], ◌∷◌, length, map, get_or}
use Rattle.std.proofs.Common.{Ok, arith}
use Rattle.std.specs.List.{All}
use Rattle.std.proofs.lemmas.List.{length-map, get_or-map}
use Rattle.ra_model.specs.declared.raw.RawInstance.{RawInstance}
use Rattle.ra_model.specs.declared.raw.ServiceRow.{ServiceRow}
use Rattle.ra_model.specs.Limits.{WellFormed}
use Rattle.ra_model.specs.Numbers.{all_open, service_row, process_row, balance_row, resource_count, machine_count}
use Rattle.ra_model.specs.Numbers.{service_count, process_count, balance_count, dependency_start, dependency_end}
use Rattle.ra_model.specs.Numbers.{need_at, service_of, first_of, second_of}
use Rattle.ra_model_read.specs.Lists.{ServiceNumbers, ProcessNumbers, BalanceNumbers, of_resource, of_machine}
use Rattle.ra_model_read.specs.Lists.{service_numbers_of, of_process, of_balance, lists_of}
use Rattle.ra_model_read.specs.ModelText.{model_of}
use Rattle.ra_model_read.specs.TableShapes.{dependency_end_in}
use Rattle.ra_model_read.proofs.Inversion.{counting_known}
use Rattle.ra_model_read.proofs.ModelSteps.{resource_law, machine_law, Ascends, service_law, process_law, balance_law}
use Rattle.ra_model_read.proofs.TextTaken.{ModelRead, all_read}

-- each element of a list that was made of another
each_of : {X Y : Type 0} (P : Y → Type 0) (f : X → Y) (xs : List X) (k : ℕ) (d : X) → All P (map f xs) → k < length xs →
    P (f (get_or xs k d))
each_of P f xs k d all within =
    subst P (get_or-map f xs k d (f d) within) (all k (f d) (omega (arith, length-map xs f)))

unfoldable start_after : ℕ → List ServiceRow → ℕ → ℕ
start_after first rows zero = first
start_after first rows (suc s) = dependency_end_in rows s

start_later : (row : ServiceRow) (rows : List ServiceRow) (s : ℕ) → start_after row.dependency_end rows s ≡
    dependency_end_in (row ∷ rows) s
unfolding start_after dependency_end_in
start_later row rows zero = refl
start_later row rows (suc s) = refl

ascends_up : (from : ℕ) (rows : List ServiceNumbers) (to : ℕ) → Ascends from rows to → from ≤ to
unfolding Ascends
ascends_up from [] to known = omega (arith, known)
ascends_up from (row ∷ rows) to known = omega (arith, known.0, ascends_up row.dependency_end rows to known.1)

-- from where the dependencies of a service start to where they end
record InOrder (from : ℕ) (rows : List ServiceRow) (to s : ℕ) : Type 0 where
  pub rising : start_after from rows s ≤ dependency_end_in rows s
  pub inside : dependency_end_in rows s ≤ to

ascends_at : (from : ℕ) (rows : List ServiceRow) (to s : ℕ) → Ascends from (map service_numbers_of rows) to →
    s < length rows → InOrder from rows to s
unfolding Ascends start_after dependency_end_in
ascends_at from [] to s known within = absurd (omega arith)
ascends_at from (row ∷ rows) to zero known within = record {
  rising = known.0;
  inside = ascends_up row.dependency_end (map service_numbers_of rows) to known.1;
}
ascends_at from (row ∷ rows) to (suc s) known within =
    let rest = ascends_at row.dependency_end rows to s known.1 (omega arith) in record {
      rising = subst (λ n. n ≤ dependency_end_in rows s) (start_later row rows s) rest.rising;
      inside = rest.inside;
    }

ascends_end : (from : ℕ) (rows : List ServiceRow) (to : ℕ) → Ascends from (map service_numbers_of rows) to →
    start_after from rows (length rows) ≡ to
unfolding Ascends start_after
ascends_end from [] to known = known
ascends_end from (row ∷ rows) to known =
    sym (start_later row rows (length rows)) ∙ ascends_end row.dependency_end rows to known.1

module _ (raw : RawInstance) where
  start_as : (s : ℕ) → dependency_start (all_open raw) s ≡ start_after 0 raw.services.items s
  unfolding dependency_start dependency_end service_row start_after dependency_end_in
  start_as zero = refl
  start_as (suc s) = refl

  module _ (s : ℕ) (h : InOrder 0 raw.services.items (length raw.dependencies.items) s) where
    rises : dependency_start (all_open raw) s ≤ dependency_end (all_open raw) s
    unfolding dependency_end service_row dependency_end_in
    rises = omega (arith, start_as s, h.rising)

    ends_within : dependency_end (all_open raw) s ≤ length raw.dependencies.items
    unfolding dependency_end service_row dependency_end_in
    ends_within = h.inside

  limits_of : (u : List ℕ) → ModelRead (lists_of raw) u → WellFormed (all_open raw)
  unfolding resource_count machine_count service_count process_count balance_count need_at service_of process_row
      first_of second_of balance_row
  limits_of u read =
      let lists = lists_of raw in
      let resources = counting_known resource_law read.resources in
      let machines = counting_known (machine_law (length lists.resources)) read.machines in
      let services = counting_known service_law read.services in
      let processes =
      counting_known (process_law (length lists.services.rows) (length lists.resources)) read.others.processes in
      let balances = counting_known (balance_law (length lists.resources)) read.others.balances in
      let R : length lists.resources ≡ length raw.resources.items = length-map raw.resources.items of_resource in
      let M : length lists.machines.rows ≡ length raw.machines.items = length-map raw.machines.items of_machine in
      let S : length lists.services.rows ≡ length raw.services.items =
      length-map raw.services.items service_numbers_of in
      let P : length lists.processes.rows ≡ length raw.processes.items = length-map raw.processes.items of_process in
      let B : length lists.balances ≡ length raw.balances.items = length-map raw.balances.items of_balance in
      let machine_number : read.machines.count ≡ length raw.machines.items = sym machines.rows ∙ M in
      let some_resource : 1 ≤ length lists.resources = omega (arith, read.resources.within.low, resources) in
      let some_service : 1 ≤ length lists.services.rows = omega (arith, read.services.within.low, services.rows) in
      record {
        some_resource = omega arith;
        few_resources = omega (arith, read.resources.within.high, resources);
        some_machine = omega (arith, read.machines.within.low);
        few_machines = omega (arith, read.machines.within.high);
        some_service = omega arith;
        few_services = omega (arith, read.services.within.high, services.rows);
        some_process = omega (arith, read.others.processes.within.low, processes.rows);
        few_processes = omega (arith, read.others.processes.within.high, processes.rows);
        few_balances = omega (arith, read.others.balances.within.high, balances.size);
        few_dependencies = services.few;
        capacities = rw (machines.capacities, machine_number, R) refl;
        safeties = rw (machines.safeties, machine_number, R) refl;
        way_costs = rw (machines.move_costs, machine_number) refl;
        requirements = rw (processes.requirements, sym processes.rows ∙ P, R) refl;
        in_order = λ s within. rises s (ascends_at 0 raw.services.items _ s services.in_order within);
        within = λ s within. ends_within s (ascends_at 0 raw.services.items _ s services.in_order within);
        all_owned = start_as (length raw.services.items) ∙ ascends_end 0 raw.services.items _ services.in_order;
        needs = λ place within. rw (← S, services.rows) (services.needs place _ within);
        services = λ p within. rw (← S)
            (each_of (λ (row : ProcessNumbers). row.service.0 < length lists.services.rows) of_process
            raw.processes.items p _ (processes.services some_service) within);
        firsts = λ b within. rw (← R)
            (each_of (λ (row : BalanceNumbers). row.first.0 < length lists.resources) of_balance
            raw.balances.items b _ (balances.firsts some_resource) within);
        seconds = λ b within. rw (← R)
            (each_of (λ (row : BalanceNumbers). row.second.0 < length lists.resources) of_balance
            raw.balances.items b _ (balances.seconds some_resource) within);
      }

  pub model_well_formed : (bytes : List ℕ) → model_of bytes ≡ Ok (lists_of raw) → WellFormed (all_open raw)
  model_well_formed bytes e = let whole = all_read bytes (lists_of raw) e in limits_of whole.text whole.read
