-- How a move changes the parts of the cost: by the rows of its machines, and by the places of its processes.
use Rattle.std.proofs.Common.{◌≡◌, ℕ, ◌+◌, ◌*◌, ◌^◌, ◌≤◌, ℤ, pos, ◌-ℤ◌, false, List, length, get_or, Option, None, sym, ap₂, ◌∙◌, arith}
use Rattle.std.proofs.lemmas.Int.{ints}
use Rattle.ra_base.specs.Sums.{total, is_named, fresh}
use Rattle.ra_base.specs.declared.costs.MovedCount.{MovedCount}
use Rattle.ra_base.specs.declared.ids.Machine.{Machine}
use Rattle.ra_base.proofs.Sums.{total_more, total_of_sum, total_times}
use Rattle.ra_base.proofs.Named.{total_change_named}
use Rattle.ra_model.specs.declared.raw.Tables.{Tables}
use Rattle.ra_model.specs.Numbers.{machine_count, process_count, process_weight_of, machine_weight_of}
use Rattle.ra_model.specs.Limits.{WellFormed, Small}
use Rattle.ra_model.specs.Assignments.{machine_at, tally}
use Rattle.ra_model.specs.Costs.{load_cost, balance_cost, process_share, process_cost, way_share, machine_cost}
use Rattle.ra_model.specs.MachineCosts.{row_load, row_balance, machine_load, machine_balance}
use Rattle.ra_model.specs.Situations.{Situation, process_cost_at, machine_cost_at}
use Rattle.ra_model.proofs.MachineLemmas.{load_by_machine, balance_by_machine, machine_load_under, machine_balance_under}
use Rattle.ra_rows.specs.Rows.{IsUsageRow}
use Rattle.ra_moves.specs.declared.steps.Step.{Step}
use Rattle.ra_moves.specs.declared.verdicts.Weighed.{Weighed}
use Rattle.ra_moves.specs.Steps.{process_in, from_in, to_in}
use Rattle.ra_moves.specs.Replacing.{applied, after_move}
use Rattle.ra_moves.specs.Values.{gone, come, end_count, end_in}
use Rattle.ra_moves.specs.Judging.{broken_by}
use Rattle.ra_moves.specs.Moving.{IsMove, MayMove}
use Rattle.ra_moves.specs.Weighing.{local_cost, local_change, changed_count, weighed_by, weighed_of}
use Rattle.ra_moves.proofs.EndLemmas.{ends_are_named}
use Rattle.ra_moves.proofs.StayLemmas.{tally_applied}
use Rattle.ra_moves.proofs.ChangeLemmas.{load_stays, balance_stays}
use Rattle.ra_world.proofs.RenewalLaws.{load_from, balance_from}
use Rattle.ra_weigh.specs.PlaceCosts.{row_cost, place_cost}
use Rattle.ra_weigh.specs.CountLists.{AreCountsOf}
use Rattle.ra_weigh.proofs.MoveLemmas.{end_known}

module _ (i : Tables) where
  module _ (a : List Machine) where
    -- the cost of a machine, from its row
    pub row_cost_from : (m : ℕ) (row : List ℕ) (load balance : ℕ) → WellFormed i → IsUsageRow i a m row →
        load ≡ row_load i m (λ r. get_or row r 0) → balance ≡ row_balance i m (λ r. get_or row r 0) →
        load + balance ≡ row_cost i a m
    unfolding row_cost
    row_cost_from m row load balance limits is load_is balance_is = grind (arith, load_from, balance_from)

    module _ (m : ℕ) {load balance : ℕ} where
      pub row_cost_is : load ≡ machine_load i a m → balance ≡ machine_balance i a m → load + balance ≡ row_cost i a m
      unfolding row_cost
      row_cost_is load_is balance_is = ap₂ (λ x y. x + y) load_is balance_is

      pub row_cost_few : WellFormed i → Small i → load ≡ machine_load i a m → balance ≡ machine_balance i a m →
          load + balance ≤ 2 ^ 106
      row_cost_few limits small load_is balance_is = grind (arith, machine_load_under, machine_balance_under)

    -- the machines

    rows_sum : load_cost i a + balance_cost i a ≡ total (machine_count i) (row_cost i a)
    unfolding row_cost
    rows_sum = ap₂ (λ x y. x + y) (load_by_machine i a) (balance_by_machine i a)
        ∙ sym (total_of_sum (machine_count i) (machine_load i a) (machine_balance i a))

  module _ {a : List Machine} {steps : List Step} where
    row_stays : (m : ℕ) → WellFormed i → IsMove i a steps → is_named (end_count steps) (end_in steps) m ≡ false →
        row_cost i a m ≡ row_cost i (applied a steps) m
    unfolding row_cost
    row_stays m limits move none = grind (arith, ends_are_named, load_stays, balance_stays)

    pub rows_change : WellFormed i → IsMove i a steps →
        (load_cost i (applied a steps) + balance_cost i (applied a steps)) + total (end_count steps) (fresh (end_in
        steps) (row_cost i a)) ≡
        (load_cost i a + balance_cost i a) + total (end_count steps) (fresh (end_in steps) (row_cost i (applied a
        steps)))
    rows_change limits move =
        let change = total_change_named (machine_count i) (end_count steps) (end_in steps) (row_cost i a)
        (row_cost i (applied a steps)) (λ j within. end_known i a steps j move within)
        (λ m within none. row_stays m limits move none) in
        omega (arith, change, rows_sum a, rows_sum (applied a steps))

  module _ (a0 : List Machine) (steps : List Step) (j : ℕ) {p : ℕ} where
    pub place_come : (to sum cost : ℕ) → sum ≡ total j (come (place_cost i a0) steps) → cost ≡ place_cost i a0 p to →
        p ≡ process_in steps j → to ≡ to_in steps j → sum + cost ≡ total (j + 1) (come (place_cost i a0) steps)
    unfolding come
    place_come to sum cost sum_is cost_is process_is to_is = grind (arith, total_more)

    pub place_gone : (from sum cost : ℕ) → sum ≡ total j (gone (place_cost i a0) steps) →
        cost ≡ place_cost i a0 p from → p ≡ process_in steps j → from ≡ from_in steps j →
        sum + cost ≡ total (j + 1) (gone (place_cost i a0) steps)
    unfolding gone
    place_gone from sum cost sum_is cost_is process_is from_is = grind (arith, total_more)

-- the places

places_sum : (st : Situation) → process_cost_at st + machine_cost_at st ≡ tally (process_count st.tables)
    (place_cost st.tables st.start) st.here
unfolding process_cost machine_cost place_cost tally
places_sum st =
    ap₂ (λ x y. x + y)
    (sym (total_times (process_count st.tables) (process_weight_of st.tables)
    (λ p. process_share st.tables st.start p (machine_at st.here p))))
    (sym (total_times (process_count st.tables) (machine_weight_of st.tables)
    (λ p. way_share st.tables st.start p (machine_at st.here p))))
    ∙ sym (total_of_sum (process_count st.tables) (λ p. process_weight_of st.tables * process_share st.tables st.start p
    (machine_at st.here p))
    (λ p. machine_weight_of st.tables * way_share st.tables st.start p (machine_at st.here p)))

module _ (st : Situation) (steps : List Step) where
  pub places_change : MayMove st steps →
      (process_cost_at (after_move st steps) + machine_cost_at (after_move st steps)) + total (length steps) (gone
      (place_cost st.tables st.start) steps) ≡
      (process_cost_at st + machine_cost_at st) + total (length steps) (come (place_cost st.tables st.start) steps)
  places_change move =
      omega (
        arith,
        tally_applied st.tables st.here steps (place_cost st.tables st.start) move,
        places_sum st,
        places_sum
            (after_move st steps),
      )

  -- both together

  pub local_is : (rows_added rows_taken places_added places_taken : ℕ) → WellFormed st.tables → MayMove st steps →
      rows_added ≡ total (end_count steps) (fresh (end_in steps) (row_cost st.tables (applied st.here steps))) →
      rows_taken ≡ total (end_count steps) (fresh (end_in steps) (row_cost st.tables st.here)) →
      places_added ≡ total (length steps) (come (place_cost st.tables st.start) steps) →
      places_taken ≡ total (length steps) (gone (place_cost st.tables st.start) steps) →
      pos (rows_added + places_added) -ℤ pos (rows_taken + places_taken) ≡ local_change st steps
  unfolding local_change local_cost
  local_is rows_added rows_taken places_added places_taken limits move rows_come rows_go places_come places_go =
      let rows = rows_change st.tables limits move in
      let places = places_change move in
      let both : (load_cost st.tables (applied st.here steps) + balance_cost st.tables (applied st.here steps)
      + process_cost_at (after_move st steps)
      + machine_cost_at (after_move st steps)) + (rows_taken + places_taken) ≡
      (load_cost st.tables st.here + balance_cost st.tables st.here + process_cost_at st + machine_cost_at st)
      + (rows_added + places_added) =
      omega arith in
      signed _ _
      _
      _ both
    where
      signed : (x u y v : ℕ) → y + u ≡ v + x → pos x -ℤ pos u ≡ pos y -ℤ pos v
      signed x u y v same = omega (arith, ints)

  -- the weighing, from its parts
  pub weighing_is : (local : ℤ) (counts : List (Option MovedCount)) → broken_by st steps ≡ None →
      local ≡ local_change st steps → AreCountsOf st steps (length steps) counts →
      (let w : Weighed = record {
        broken = None;
        local = local;
        first = get_or counts 0 None;
        second = get_or counts 1
            None;
        third = get_or counts 2 None;
      } in w) ≡ weighed_of st steps
  unfolding weighed_of weighed_by changed_count
  weighing_is local counts none local_is are = grind (arith, local_is)
