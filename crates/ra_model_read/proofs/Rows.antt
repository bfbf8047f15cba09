-- One row more at the end of a list of rows.
use Rattle.std.proofs.Common.{inl, inr, ◌≡◌, ℕ, zero, suc, ◌+◌, ◌*◌, ◌^◌, ◌<◌, ◌≤◌, refl, ap, ◌∙◌, sym, subst, List, [], ◌∷◌}
use Rattle.std.proofs.Common.{◌++◌, length, map, get_or, arith, add-one}
use Rattle.std.proofs.lemmas.List.{map-append, length-map, get_or_append_left, length_push, nil_from_length}
use Rattle.std.proofs.lemmas.Bool.{cases_lt}
use Rattle.std.proofs.Math.Nat.{mul-le-mul_right}
use Rattle.std.proofs.Math.Seq.{get_or-append_seam}
use Rattle.ra_base.specs.Listed.{Listed}
use Rattle.ra_base.specs.declared.ids.Service.{Service}
use Rattle.ra_model.specs.declared.raw.BalanceRow.{BalanceRow}
use Rattle.ra_model.specs.declared.raw.MachineRow.{MachineRow}
use Rattle.ra_model.specs.declared.raw.ProcessRow.{ProcessRow}
use Rattle.ra_model.specs.declared.raw.ServiceRow.{ServiceRow}
use Rattle.ra_model_read.specs.declared.tables.MachineTables.{MachineTables}
use Rattle.ra_model_read.specs.declared.tables.ServiceTables.{ServiceTables}
use Rattle.ra_model_read.specs.declared.tables.ProcessTables.{ProcessTables}
use Rattle.ra_model_read.specs.TableShapes.{machine_lists, service_lists, process_lists, zero_process, zero_balance}
use Rattle.ra_model_read.specs.TableShapes.{HasMachines, HasProcesses, IsMachines, IsServices, IsProcesses}
use Rattle.ra_model_read.specs.TableShapes.{dependency_end_in, dependency_start_in, needed_in, AreServices}
use Rattle.ra_model_read.specs.TableShapes.{HasDependencies, HasServices, row_service_in, first_in, second_in}
use Rattle.ra_model_read.specs.TableShapes.{AreBalances, HasBalances}

pub rows_pushed : {X Y : Type 0} (f : X → Y) (rows new : List X) (row : X) → new ≡ rows ++ row ∷ [] →
    map f new ≡ map f rows ++ f row ∷ []
rows_pushed f rows new row e = ap (map f) e ∙ map-append f rows (row ∷ [])

-- a count of rows is a count of what is in them
pub counted : {X Y : Type 0} (f : X → Y) (rows : List X) (n : ℕ) → n ≡ length rows → n ≡ length (map f rows)
counted f rows n e = e ∙ sym (length-map rows f)

-- what holds of each of n, and of the next
below_next : (P : ℕ → Type 0) (n : ℕ) → ((k : ℕ) → k < n → P k) → P n → (k : ℕ) → k < n + 1 → P k
below_next P n before here k within =
    elim (cases_lt k n) [
      | inl h ↦ before k h
      | inr h ↦ let e : n ≡ k = omega arith in subst P e here
    ]

-- what holds of each row, and of the next
each_pushed : {X : Type 0} (P : X → Type 0) (d : X) (xs : List X) (x : X) (n : ℕ) → length xs ≡ n →
    ((k : ℕ) → k < n → P (get_or xs k d)) → P x → (k : ℕ) → k < n + 1 → P (get_or (xs ++ x ∷ []) k d)
each_pushed P d xs x n full before here = below_next (λ k. P (get_or (xs ++ x ∷ []) k d)) n
    (λ k within. subst P (sym (get_or_append_left xs (x ∷ []) d k (omega arith))) (before k within))
    (subst (λ k. P (get_or (xs ++ x ∷ []) k d)) full (subst P (sym (get_or-append_seam xs x [] d)) here))

module _ (R M m : ℕ) where
  -- machines

  pub row_within : (n room : ℕ) → n ≡ m * R → room ≡ M * R → m < M → n + R ≤ room
  row_within n room items all below =
      let wide : (m + 1) * R ≤ M * R = mul-le-mul_right R (omega arith) in omega (arith, items, all, wide)

  pub row_fits : m < M → M ≤ 5000 → R ≤ 5000 → m * R + R < 2 ^ 64
  row_fits below few narrow = let wide : m * R ≤ 5000 * R = mul-le-mul_right R (omega arith) in omega (arith, wide)

  pub has_machine : (t new : MachineTables) (row : MachineRow) → HasMachines R M m t →
      new.rows.items ≡ t.rows.items ++ row ∷ [] → length new.capacities.items ≡ length t.capacities.items + R →
      length new.safeties.items ≡ length t.safeties.items + R →
      length new.move_costs.items ≡ length t.move_costs.items + M → new.rows.room ≡ t.rows.room →
      new.capacities.room ≡ t.capacities.room → new.safeties.room ≡ t.safeties.room →
      new.move_costs.room ≡ t.move_costs.room → HasMachines R M (m + 1) new
  has_machine t new row h e capacities safeties move_costs rows_room capacities_room safeties_room move_costs_room =
      record {
        few_resources = h.few_resources;
        few = h.few;
        rows = ap length e ∙ length_push t.rows.items row ∙ ap (λ n. n + 1) h.rows;
        capacities = omega (arith, h.capacities, capacities);
        safeties = omega (arith, h.safeties, safeties);
        move_costs = omega (arith, h.move_costs, move_costs);
        rows_room = rows_room ∙ h.rows_room;
        capacities_room = capacities_room ∙ h.capacities_room;
        safeties_room = safeties_room ∙ h.safeties_room;
        move_costs_room = move_costs_room ∙ h.move_costs_room;
      }

-- processes

pub has_process : (S R P p : ℕ) (t new : ProcessTables) (row : ProcessRow) → HasProcesses S R P p t →
    new.rows.items ≡ t.rows.items ++ row ∷ [] → length new.requirements.items ≡ length t.requirements.items + R →
    row.service.0 < S → new.rows.room ≡ t.rows.room → new.requirements.room ≡ t.requirements.room →
    HasProcesses S R P (p + 1) new
unfolding row_service_in
has_process S R P p t new row h e wider here rows_room room = record {
  few_resources = h.few_resources;
  few = h.few;
  rows = ap length e ∙ length_push t.rows.items row ∙ ap (λ n. n + 1) h.rows;
  requirements = omega (arith, h.requirements, wider);
  rows_room = rows_room ∙ h.rows_room;
  requirements_room = room ∙ h.requirements_room;
  services = rw e (each_pushed (λ r. r.service.0 < S) zero_process _ row _ h.rows h.services here);
}

-- balance objectives

balances_pushed : (rows new : List BalanceRow) (row : BalanceRow) (R : ℕ) → new ≡ rows ++ row ∷ [] →
    AreBalances R rows → row.first.0 < R → row.second.0 < R → AreBalances R new
unfolding first_in second_in
balances_pushed rows new row R e before one two = rw (e) (record {
  firsts = rw (length_push rows row) (each_pushed (λ r. r.first.0 < R) zero_balance rows row _ refl before.firsts one);
  seconds = rw (length_push rows row)
      (each_pushed (λ r. r.second.0 < R) zero_balance rows row _ refl before.seconds two);
})

pub has_balance : (R b : ℕ) (old new : Listed BalanceRow) (row : BalanceRow) → HasBalances R b old →
    new.items ≡ old.items ++ row ∷ [] → row.first.0 < R → row.second.0 < R → HasBalances R (b + 1) new
has_balance R b old new row h e one two = record {
  rows = ap length e ∙ length_push old.items row ∙ ap (λ n. n + 1) h.rows;
  among = balances_pushed old.items new.items row R e h.among one two;
}

pub has_no_balance : (R : ℕ) (none : Listed BalanceRow) → none.items ≡ [] → HasBalances R 0 none
has_no_balance R none e = record {
  rows = ap length e;
  among = rw e (record { firsts = λ b within. absurd (omega arith); seconds = λ b within. absurd (omega arith) });
}

-- dependencies

no_dependency : (S : ℕ) (none : List Service) → none ≡ [] → AreServices S none
no_dependency S none e = rw e (record { each = λ place within. absurd (omega arith) })

dependency_pushed : (dependencies new : List Service) (one : Service) (S : ℕ) → new ≡ dependencies ++ one ∷ [] →
    AreServices S dependencies → one.0 < S → AreServices S new
unfolding needed_in
dependency_pushed dependencies new one S e before here = rw (e) (record {
  each = rw (length_push dependencies one)
      (each_pushed (λ s. s.0 < S) (record { 0 = 0 }) dependencies one _ refl before.each here);
})

pub has_dependency : (S : ℕ) (old new : Listed Service) (one : Service) → HasDependencies S old →
    new.items ≡ old.items ++ one ∷ [] → new.room ≡ old.room → length old.items < 100000 → one.0 < S →
    HasDependencies S new
has_dependency S old new one h e room below here = record {
  room = room ∙ h.room;
  few = omega (arith, ap length e, length_push old.items one);
  needs = dependency_pushed old.items new.items one S e h.needs here;
}

module _ (rows : List ServiceRow) where
  module _ (row : ServiceRow) where
    -- where the dependencies of services end

    end_before : (k : ℕ) → k < length rows → dependency_end_in (rows ++ row ∷ []) k ≡ dependency_end_in rows k
    unfolding dependency_end_in
    end_before k within = ap (λ r. r.dependency_end) (get_or_append_left rows (row ∷ []) _ k within)

    end_here : dependency_end_in (rows ++ row ∷ []) (length rows) ≡ row.dependency_end
    unfolding dependency_end_in
    end_here = ap (λ r. r.dependency_end) (get_or-append_seam rows row [] _)

    start_before : (k : ℕ) → k ≤ length rows → dependency_start_in (rows ++ row ∷ []) k ≡ dependency_start_in rows k
    unfolding dependency_start_in
    start_before zero within = refl
    start_before (suc k) within = end_before k (omega arith)

  start_next : (s : ℕ) → dependency_start_in rows (s + 1) ≡ dependency_end_in rows s
  unfolding dependency_start_in
  start_next s = rw add-one refl

pub has_none : (S : ℕ) (t : ServiceTables) → t.rows.items ≡ [] → t.dependencies.items ≡ [] → t.rows.room ≡ S →
    t.dependencies.room ≡ 100000 → HasServices S 0 t
unfolding dependency_start_in
has_none S t none no_need rows_room room = record {
  rows = rw none refl;
  rows_room = rows_room;
  dependencies = record {
    room = room;
    few = rw no_need (omega arith);
    needs = no_dependency S t.dependencies.items no_need;
  };
  in_order = λ k within. absurd (omega arith);
  within = λ k within. absurd (omega arith);
  all_owned = rw no_need refl;
}

pub has_service : (S s : ℕ) (t new : ServiceTables) (row : ServiceRow) → HasServices S s t →
    new.rows.items ≡ t.rows.items ++ row ∷ [] → row.dependency_end ≡ length new.dependencies.items →
    length t.dependencies.items ≤ length new.dependencies.items → new.rows.room ≡ t.rows.room →
    HasDependencies S new.dependencies → HasServices S (s + 1) new
has_service S s t new row h e ends more rows_room dependencies = let full : length t.rows.items ≡ s = h.rows in record {
  rows = ap length e ∙ length_push t.rows.items row ∙ ap (λ n. n + 1) h.rows;
  rows_room = rows_room ∙ h.rows_room;
  dependencies = dependencies;
  in_order = rw e (below_next (λ k. dependency_start_in (t.rows.items ++ row ∷ []) k ≤
      dependency_end_in (t.rows.items ++ row ∷ []) k) s
      (λ k within.
      omega (
        arith,
        start_before t.rows.items row k (omega arith),
        end_before t.rows.items row k (omega arith),
        h.in_order k within,
      ))
      (rw (← full)
      (omega (
        arith,
        start_before t.rows.items row (length t.rows.items) (omega arith),
        end_here t.rows.items row,
        ap (dependency_start_in t.rows.items) full,
        h.all_owned,
      ))));
  within = rw e (below_next (λ k. dependency_end_in (t.rows.items ++ row ∷ []) k ≤ length new.dependencies.items) s
      (λ k within. omega (arith, end_before t.rows.items row k (omega arith), h.within k within))
      (rw (← full) (omega (arith, end_here t.rows.items row))));
  all_owned = rw e (start_next (t.rows.items ++ row ∷ []) s
      ∙ ap (dependency_end_in (t.rows.items ++ row ∷ [])) (sym full)
      ∙ end_here t.rows.items row ∙ ends);
}

-- tables with nothing in them, and with all rows

pub no_machines : (R M : ℕ) (t : MachineTables) → HasMachines R M 0 t → machine_lists t ≡ record {
  rows = [];
  capacities = [];
  safeties = [];
  move_costs = [];
}
no_machines R M t h = rw (
  nil_from_length t.rows.items h.rows,
  nil_from_length t.capacities.items (omega (arith, h.capacities)),
  nil_from_length t.safeties.items (omega (arith, h.safeties)),
  nil_from_length t.move_costs.items (omega (arith, h.move_costs)),
) refl

pub no_services : (S : ℕ) (t : ServiceTables) → HasServices S 0 t →
    service_lists t ≡ record { rows = []; dependencies = [] }
unfolding dependency_start_in
no_services S t h =
    rw (nil_from_length t.rows.items h.rows, nil_from_length t.dependencies.items (sym h.all_owned)) refl

pub no_processes : (S R P : ℕ) (t : ProcessTables) → HasProcesses S R P 0 t →
    process_lists t ≡ record { rows = []; requirements = [] }
no_processes S R P t h =
    rw (nil_from_length t.rows.items h.rows, nil_from_length t.requirements.items (omega (arith, h.requirements))) refl

pub all_machines : (R M m : ℕ) (t : MachineTables) → HasMachines R M m t → M ≤ m → m ≤ M → 1 ≤ M → IsMachines R t
all_machines R M m t h low high some = let full : M ≡ m = omega arith in
    record { some = omega (arith, h.rows); has = rw h.rows (rw full at h) }

pub all_services : (S s : ℕ) (t : ServiceTables) → HasServices S s t → S ≤ s → s ≤ S → 1 ≤ S → S ≤ 50000 → IsServices t
all_services S s t h low high some few = let full : S ≡ s = omega arith in
    record { some = omega (arith, h.rows); few = omega (arith, h.rows); has = rw h.rows (rw full at h) }

pub all_processes : (S R P p : ℕ) (t : ProcessTables) → HasProcesses S R P p t → P ≤ p → p ≤ P → 1 ≤ P →
    IsProcesses S R t
all_processes S R P p t h low high some = let full : P ≡ p = omega arith in
    record { some = omega (arith, h.rows); has = rw h.rows (rw full at h) }
