-- What a shift changes: the costs of its two machines, those of its own way, and how many processes have moved.
use Rattle.std.proofs.Common.{◌≡◌, ℕ, ℤ, Bool, pos, ◌+◌, ◌-◌, ◌^◌, ◌<◌, ◌≤◌, ◌-ℤ◌, true, false, cond, eqb, not, List, [], ◌∷◌, None, Some, refl, sym, arith}
use Rattle.std.proofs.lemmas.Int.{ints}
use Rattle.ra_base.specs.Sums.{one_if, is_named}
use Rattle.ra_base.specs.declared.costs.MovedCount.{MovedCount}
use Rattle.ra_base.specs.declared.ids.Machine.{Machine}
use Rattle.ra_base.specs.declared.ids.Service.{Service}
use Rattle.ra_base.proofs.Sums.{total_change_two}
use Rattle.ra_model.specs.declared.raw.Tables.{Tables}
use Rattle.ra_model.specs.Numbers.{resource_count, machine_count, process_count, service_of}
use Rattle.ra_model.specs.Limits.{WellFormed, Small}
use Rattle.ra_model.specs.Assignments.{IsAssignment, machine_at}
use Rattle.ra_model.specs.Usage.{use_of}
use Rattle.ra_model.specs.Services.{moved_of}
use Rattle.ra_model.specs.Costs.{load_cost, balance_cost}
use Rattle.ra_model.specs.MachineCosts.{machine_load, machine_balance}
use Rattle.ra_model.specs.Situations.{Situation, moved_at}
use Rattle.ra_model.proofs.MachineLemmas.{row_load_same, row_balance_same, load_by_machine, balance_by_machine, machine_costs_fit}
use Rattle.ra_cells.specs.Marks.{away}
use Rattle.ra_world.proofs.CostLaws.{process_set, machine_set}
use Rattle.ra_world.proofs.RenewalLaws.{load_stays, balance_stays}
use Rattle.ra_moves.specs.Steps.{process_in, step_at}
use Rattle.ra_moves.specs.Judging.{broken_by}
use Rattle.ra_moves.specs.Options.{leaving}
use Rattle.ra_moves.specs.Touched.{service_in}
use Rattle.ra_moves.specs.Weighing.{is_new_service, local_cost, local_change, moved_count, changed_count, count_at, services_moved, weighed_by, weighed_of}
use Rattle.ra_shift.specs.Conditions.{shifted}
use Rattle.ra_shift.specs.Sharing.{use_without, use_with, row_cost_with, cost_of, way_cost}
use Rattle.ra_shift.proofs.RoomLaws.{IsStart, use_entered, use_left}
use Rattle.ra_shift.proofs.MemberLaws.{members_mine}
use Rattle.ra_shift.proofs.AllowLaws.{applied_one}

-- the costs of a row of use are those of each equal row
pub row_cost_same : (i : Tables) (m : ℕ) (u v : ℕ → ℕ) → WellFormed i → ((r : ℕ) → r < resource_count i → u r ≡ v r) →
    row_cost_with i m u ≡ row_cost_with i m v
unfolding row_cost_with
row_cost_same i m u v limits same = grind (arith, row_load_same, row_balance_same)

-- the costs of a machine in an assignment, from its row
cost_by_row : (i : Tables) (a : List Machine) (m : ℕ) → cost_of i a m ≡ row_cost_with i m (use_of i a m)
unfolding cost_of row_cost_with machine_load machine_balance
cost_by_row i a m = refl

signed : (after before added taken : ℕ) → after + taken ≡ before + added →
    pos added -ℤ pos taken ≡ pos after -ℤ pos before
signed after before added taken is = omega (arith, ints, is)

module _ (st : Situation) (p to : ℕ) where
  pub cost_entered : IsStart st p to →
      cost_of st.tables (shifted st.here p to) to ≡ row_cost_with st.tables to (use_with st.tables st.here p to)
  unfolding use_with
  cost_entered h = grind (arith, cost_by_row, row_cost_same, use_entered)

  pub cost_left : IsStart st p to →
      cost_of st.tables (shifted st.here p to) (machine_at st.here p) ≡ row_cost_with st.tables (machine_at st.here p)
      (use_without st.tables st.here p)
  unfolding use_without
  cost_left h = grind (arith, cost_by_row, row_cost_same, use_left)

  -- load and balance cost
  loads_change : IsStart st p to →
      load_cost st.tables (shifted st.here p to) + (machine_load st.tables st.here (machine_at st.here p)
      + machine_load st.tables st.here to) ≡ load_cost st.tables st.here
      + (machine_load st.tables (shifted st.here p to) (machine_at st.here p) + machine_load st.tables
      (shifted st.here p to) to)
  loads_change h =
      let change = total_change_two (machine_count st.tables) (machine_at st.here p) to
      (machine_load st.tables (shifted st.here p to))
      (machine_load st.tables st.here) (h.fits.in_range p h.known) h.reach h.apart
      (λ m within not_from not_to.
      sym (load_stays st.tables st.here p (record { 0 = to }) m h.fits h.known (λ e. not_from (sym e))
      (λ e. not_to (sym e)))) in
      omega (arith, change, load_by_machine st.tables st.here, load_by_machine st.tables (shifted st.here p to))

  balances_change : IsStart st p to →
      balance_cost st.tables (shifted st.here p to) + (machine_balance st.tables st.here (machine_at st.here p)
      + machine_balance st.tables st.here to) ≡ balance_cost st.tables st.here
      + (machine_balance st.tables (shifted st.here p to) (machine_at st.here p) + machine_balance st.tables
      (shifted st.here p to) to)
  balances_change h =
      let change = total_change_two (machine_count st.tables) (machine_at st.here p) to
      (machine_balance st.tables (shifted st.here p to))
      (machine_balance st.tables st.here) (h.fits.in_range p h.known) h.reach h.apart
      (λ m within not_from not_to.
      sym (balance_stays st.tables st.here p (record { 0 = to }) m h.formed h.fits h.known (λ e. not_from (sym e))
      (λ e. not_to (sym e)))) in
      omega (arith, change, balance_by_machine st.tables st.here, balance_by_machine st.tables (shifted st.here p to))

  -- all four parts
  pub cost_changes : IsStart st p to →
      local_cost (record st { here = shifted st.here p to })
      + (cost_of st.tables st.here (machine_at st.here p) + way_cost st.tables st.start p (machine_at st.here p)
      + cost_of st.tables st.here to) ≡ local_cost st
      + (cost_of st.tables (shifted st.here p to) (machine_at st.here p) + cost_of st.tables (shifted st.here p to) to
      + way_cost st.tables st.start p to)
  unfolding local_cost cost_of way_cost
  cost_changes h = grind (arith, loads_change, balances_change, process_set, machine_set)

  -- the change of the costs: what is added less what is taken away
  pub change_is : (without before with way here : ℕ) → IsStart st p to →
      without ≡ row_cost_with st.tables (machine_at st.here p) (use_without st.tables st.here p) →
      before ≡ cost_of st.tables st.here (machine_at st.here p) + way_cost st.tables st.start p
      (machine_at st.here p) → with ≡ row_cost_with st.tables to (use_with st.tables st.here p to) →
      way ≡ way_cost st.tables st.start p to → here ≡ cost_of st.tables st.here to →
      pos (without + with + way) -ℤ pos (before + here) ≡ local_change st (leaving st.here p to ∷ [])
  unfolding local_change
  change_is without before with way here h without_is before_is with_is way_is here_is =
      grind (arith, cost_left, cost_entered, applied_one, signed, cost_changes)

  -- moved counts
  pub moved_mine : IsAssignment st.tables st.here → p < process_count st.tables →
      moved_at (record st { here = shifted st.here p to }) (service_of st.tables p) + away (machine_at st.start p)
      (machine_at st.here p) ≡
      moved_at st (service_of st.tables p) + away (machine_at st.start p) to
  unfolding moved_of away
  moved_mine fits within =
      omega (
        arith,
        members_mine st.tables st.here p to (service_of st.tables p)
            (λ q at. cond (eqb (machine_at st.start q) at) false true) fits
            within refl,
        away_is (eqb (machine_at st.start p) (machine_at st.here p)),
        away_is (eqb (machine_at st.start p) to),
      )
    where
      away_is : (t : Bool) → one_if (cond t false true) ≡ one_if (not t)
      away_is true = refl
      away_is false = refl

  pub moved_after : (s before gone come : ℕ) → IsAssignment st.tables st.here →
      p < process_count st.tables → s ≡ service_of st.tables p → before ≡ moved_at st s →
      gone ≡ away (machine_at st.start p) (machine_at st.here p) → come ≡ away (machine_at st.start p) to →
      (gone ≤ before + come)
      × (before + come - gone ≡ moved_at (record st { here = shifted st.here p to }) s)
  moved_after s before gone come fits within s_is before_is gone_is come_is = grind (arith, moved_mine)

  pub moved_is : (before after : ℕ) (service : Service) →
      service.0 ≡ service_of st.tables p → before ≡ moved_at st service.0 →
      after ≡ moved_at (record st { here = shifted st.here p to }) service.0 →
      record {
        service = service;
        before = before;
        after = after;
      } ≡ moved_count st (leaving st.here p to ∷ []) (service_of st.tables p)
  unfolding moved_count
  moved_is before after service s_is before_is after_is = grind (arith, applied_one)

  one_count : changed_count st (leaving st.here p to ∷ []) 0 ≡
      Some (moved_count st (leaving st.here p to ∷ []) (service_of st.tables p))
  unfolding changed_count count_at services_moved is_new_service service_in is_named process_in step_at leaving
  one_count = refl

  no_second : changed_count st (leaving st.here p to ∷ []) 1 ≡ None
  unfolding changed_count count_at services_moved is_new_service is_named
  no_second = refl

  no_third : changed_count st (leaving st.here p to ∷ []) 2 ≡ None
  unfolding changed_count count_at services_moved is_new_service is_named
  no_third = refl

  -- the weighing of a shift that breaks nothing
  pub weighed_is : (local : ℤ) (count : MovedCount) →
      broken_by st (leaving st.here p to ∷ []) ≡ None → local ≡ local_change st (leaving st.here p to ∷ []) →
      count ≡ moved_count st (leaving st.here p to ∷ []) (service_of st.tables p) → record {
        broken = None;
        local = local;
        first = Some count;
        second = None;
        third = None;
      } ≡ weighed_of st (leaving st.here p to ∷ [])
  unfolding weighed_of weighed_by
  weighed_is local count none local_is count_is =
      rw (none, one_count, no_second, no_third, local_is, count_is) refl

-- bounds
pub cost_small : (i : Tables) (a : List Machine) (m : ℕ) → WellFormed i → Small i →
    (machine_load i a m + machine_balance i a m < 2 ^ 101)
cost_small i a m limits small = grind (arith, machine_costs_fit)
