-- What is kept if one process goes to another machine.
use Rattle.std.proofs.Common.{◌≡◌, ℕ, ◌+◌, ◌*◌, ◌^◌, ◌<◌, ◌≤◌, List, length, set, slice_index, sym, refl, ap}
use Rattle.std.proofs.Common.{◌∙◌, arith}
use Rattle.ra_base.specs.Sums.{total}
use Rattle.ra_base.specs.declared.costs.Parts.{Parts}
use Rattle.ra_base.specs.declared.ids.Machine.{Machine}
use Rattle.ra_model.specs.declared.raw.Tables.{Tables}
use Rattle.ra_model.specs.Numbers.{machine_count, process_count, process_weight_of, machine_weight_of}
use Rattle.ra_model.specs.Limits.{WellFormed, Small}
use Rattle.ra_model.specs.Assignments.{IsAssignment, machine_at}
use Rattle.ra_model.specs.Costs.{load_cost, balance_cost, process_share, process_cost, service_cost, way_share}
use Rattle.ra_model.specs.Costs.{machine_cost, objective, parts_of}
use Rattle.ra_model.specs.MachineCosts.{machine_load, machine_balance}
use Rattle.ra_model.proofs.MachineLemmas.{load_by_machine, balance_by_machine}
use Rattle.ra_model.proofs.BoundLemmas.{load_under, balance_under, process_under, service_under, machine_under}
use Rattle.ra_rows.specs.Rows as rows
use Rattle.ra_cells.specs.Stands as cells
use Rattle.ra_world.specs.declared.kept.Kept.{Kept}
use Rattle.ra_world.specs.FilterTables.{IsRowTable}
use Rattle.ra_base.specs.SmallParts.{AreSmall}
use Rattle.ra_world.specs.Costs.{AreCosts}
use Rattle.ra_world.specs.Keeping.{Keeps}
use Rattle.ra_world.proofs.CostLaws.{process_set, machine_set, process_counted, machine_counted}
use Rattle.ra_world.proofs.RenewalLaws.{load_stays, balance_stays, renewed, summed_costs, load_summed, balance_summed}

-- the sum over the renewed costs
pub sum_renewed : {old new : List ℕ} {n : ℕ} {f g : ℕ → ℕ} {sum : ℕ} → AreCosts old n f → AreCosts new n g →
    sum ≡ total (length old) (slice_index new) → sum ≡ total n g
sum_renewed {new} {n} {g} before after is = grind (arith, summed_costs)

-- five numbers that are the parts
pub record AreParts (i : Tables) (a0 a : List Machine) (load balance process service machine : ℕ) : Type 0 where
  pub load_is : load ≡ load_cost i a
  pub balance_is : balance ≡ balance_cost i a
  pub process_is : process ≡ process_cost i a0 a
  pub service_is : service ≡ service_cost i a0 a
  pub machine_is : machine ≡ machine_cost i a0 a

module _ {i : Tables} {a0 : List Machine} where
  module _ {a : List Machine} {load balance process service machine : ℕ} where
    pub parts_small : WellFormed i → Small i → AreParts i a0 a load balance process service machine →
        AreSmall load balance process service machine
    parts_small limits small are = grind (arith, load_under, balance_under, process_under, service_under, machine_under)

    pub parts_summed : (parts : Parts) → AreParts i a0 a load balance process service machine → parts ≡ record {
      load = load;
      balance = balance;
      process = process;
      service = service;
      machine = machine;
      total = load + balance + process + service + machine;
    } → parts ≡ parts_of i a0 a
    unfolding parts_of objective
    parts_summed parts are is =
        is ∙ rw (are.load_is, are.balance_is, are.process_is, are.service_is, are.machine_is) refl

module _ {kept : Kept} {i : Tables} {a0 : List Machine} where
  module _ (keeps : Keeps kept i a0) where
    -- the kept parts are those of the kept assignment

    pub load_kept : kept.parts.load ≡ load_cost i kept.assignment.items
    unfolding parts_of
    load_kept = ap (λ (p : Parts). p.load) keeps.parts

    pub balance_kept : kept.parts.balance ≡ balance_cost i kept.assignment.items
    unfolding parts_of
    balance_kept = ap (λ (p : Parts). p.balance) keeps.parts

    pub process_kept : kept.parts.process ≡ process_cost i a0 kept.assignment.items
    unfolding parts_of
    process_kept = ap (λ (p : Parts). p.process) keeps.parts

    pub machine_kept : kept.parts.machine ≡ machine_cost i a0 kept.assignment.items
    unfolding parts_of
    machine_kept = ap (λ (p : Parts). p.machine) keeps.parts

    -- the kept sums of the costs of all machines

    pub load_sum : kept.parts.load ≡ total (length kept.loads.items) (slice_index kept.loads.items)
    load_sum = load_kept ∙ load_summed i kept.assignment.items kept.loads.items keeps.loads

    pub balance_sum : kept.parts.balance ≡ total (length kept.balances.items) (slice_index kept.balances.items)
    balance_sum =
        balance_kept ∙ balance_summed i kept.assignment.items kept.balances.items keeps.balances

  module _ (limits : WellFormed i) (small : Small i) (keeps : Keeps kept i a0) where
    -- and how large the kept parts are at most

    pub load_fits : kept.parts.load < 2 ^ 120
    load_fits =
        omega (arith, load_kept keeps, load_under i kept.assignment.items limits small)

    pub balance_fits : kept.parts.balance < 2 ^ 120
    balance_fits =
        omega (arith, balance_kept keeps, balance_under i kept.assignment.items limits small)

    pub process_fits : kept.parts.process < 2 ^ 120
    process_fits =
        omega (arith, process_kept keeps, process_under i a0 kept.assignment.items limits small)

    pub machine_fits : kept.parts.machine < 2 ^ 120
    machine_fits =
        omega (arith, machine_kept keeps, machine_under i a0 kept.assignment.items limits small)

  module _ (p : ℕ) (from : Machine) where
    module _ (keeps : Keeps kept i a0) (within : p < process_count i)
        (here : machine_at kept.assignment.items p ≡ from.0) where
      -- what the process that leaves has added to them

      pub process_part : process_weight_of i * process_share i a0 p from.0 ≤ kept.parts.process
      process_part = grind (arith, process_kept, process_counted)

      pub machine_part : machine_weight_of i * way_share i a0 p from.0 ≤
          kept.parts.machine
      machine_part = grind (arith, machine_kept, machine_counted)

    module _ (to : Machine) where
      -- one process goes to another machine

      pub loads_renewed : {loads : List ℕ} → Keeps kept i a0 → p < process_count i →
          machine_at kept.assignment.items p ≡ from.0 → to.0 < machine_count i →
          loads ≡ set (set kept.loads.items from.0 (machine_load i (set kept.assignment.items p to) from.0)) to.0
          (machine_load i (set kept.assignment.items p to) to.0) →
          AreCosts loads (machine_count i) (machine_load i (set kept.assignment.items p to))
      loads_renewed {loads} keeps within here there is =
          let fits = keeps.stand.fits in
          renewed kept.loads.items loads _ from.0 to.0 _
          _ keeps.loads is (omega (arith, here, fits.in_range p within))
          there
          (λ m not_left not_entered. load_stays i kept.assignment.items p to m fits within
          (λ e. not_left (sym here ∙ e))
          not_entered)

      pub balances_renewed : {balances : List ℕ} → WellFormed i → Keeps kept i a0 → p < process_count i →
          machine_at kept.assignment.items p ≡ from.0 → to.0 < machine_count i →
          balances ≡ set (set kept.balances.items from.0 (machine_balance i (set kept.assignment.items p to) from.0))
          to.0 (machine_balance i (set kept.assignment.items p to) to.0) →
          AreCosts balances (machine_count i) (machine_balance i (set kept.assignment.items p to))
      balances_renewed {balances} limits keeps within here there is =
          let fits = keeps.stand.fits in
          renewed kept.balances.items balances _ from.0 to.0 _
          _ keeps.balances is
          (omega (arith, here, fits.in_range p within)) there
          (λ m not_left not_entered. balance_stays i kept.assignment.items p to m limits fits within
          (λ e. not_left (sym here ∙ e)) not_entered)

      pub process_renewed : (process : ℕ) → Keeps kept i a0 → p < process_count i →
          machine_at kept.assignment.items p ≡ from.0 →
          process + process_weight_of i * process_share i a0 p from.0 ≡
          kept.parts.process + process_weight_of i * process_share i a0 p to.0 →
          process ≡ process_cost i a0 (set kept.assignment.items p to)
      process_renewed process keeps within here is = grind (arith, process_kept, process_set)

      pub machine_renewed : (machine : ℕ) → Keeps kept i a0 → p < process_count i →
          machine_at kept.assignment.items p ≡ from.0 →
          machine + machine_weight_of i * way_share i a0 p from.0 ≡
          kept.parts.machine + machine_weight_of i * way_share i a0 p to.0 →
          machine ≡ machine_cost i a0 (set kept.assignment.items p to)
      machine_renewed machine keeps within here is = grind (arith, machine_kept, machine_set)

      -- the new parts, from the old ones and what the step changes
      pub all_parts : {loads balances : List ℕ} {load balance : ℕ} (process : ℕ) {service : ℕ} (machine : ℕ) →
          WellFormed i → Keeps kept i a0 → p < process_count i → machine_at kept.assignment.items p ≡ from.0 →
          to.0 < machine_count i →
          loads ≡ set (set kept.loads.items from.0 (machine_load i (set kept.assignment.items p to) from.0)) to.0
          (machine_load i (set kept.assignment.items p to) to.0) →
          load ≡ total (length kept.loads.items) (slice_index loads) →
          balances ≡ set (set kept.balances.items from.0 (machine_balance i (set kept.assignment.items p to) from.0))
          to.0 (machine_balance i (set kept.assignment.items p to) to.0) →
          balance ≡ total (length kept.balances.items) (slice_index balances) →
          process + process_weight_of i * process_share i a0 p from.0 ≡
          kept.parts.process + process_weight_of i * process_share i a0 p to.0 →
          service ≡ service_cost i a0 (set kept.assignment.items p to) →
          machine + machine_weight_of i * way_share i a0 p from.0 ≡
          kept.parts.machine + machine_weight_of i * way_share i a0 p to.0 →
          AreParts i a0 (set kept.assignment.items p to) load balance process service machine
      all_parts {loads} {balances} {load} {balance} process machine limits keeps within here there loads_are load_is
          balances_are balance_is process_is service_is machine_is =
          let b = set kept.assignment.items p to in
          record {
            load_is = sum_renewed
                keeps.loads (loads_renewed keeps within here there loads_are) load_is
                ∙ sym (load_by_machine i b);
            balance_is = sum_renewed keeps.balances
                (balances_renewed limits keeps within here there balances_are) balance_is
                ∙ sym (balance_by_machine i b);
            process_is = process_renewed process keeps within here process_is;
            service_is = service_is;
            machine_is = machine_renewed machine keeps within here machine_is;
          }

  -- all that is kept is that of the new assignment
  pub keeps_on : {b : List Machine} → kept.assignment.items ≡ b → IsAssignment i b → kept.rows.tables ≡ i →
      kept.rows.start ≡ a0 → rows.StandFor kept.rows b → cells.StandFor kept.cells i a0 b →
      AreCosts kept.loads.items (machine_count i) (machine_load i b) →
      AreCosts kept.balances.items (machine_count i) (machine_balance i b) → IsRowTable i b kept.filters.items →
      kept.parts ≡ parts_of i a0 b → Keeps kept i a0
  keeps_on is fits tables start rows_stand cells_stand loads balances filters parts = grind arith
