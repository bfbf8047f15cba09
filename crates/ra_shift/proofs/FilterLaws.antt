-- The filter's sum is the change of the cost.
use Rattle.std.proofs.Common.{◌≡◌, ◌≢◌, ℕ, ◌+◌, ◌-◌, ◌*◌, ◌^◌, ◌<◌, ◌≤◌, Option, Some, None, List, refl, ap, ap₂, sym, ◌∙◌, arith, eq-eqb, ne_eqb, mul-le-mul_left}
use Rattle.std.proofs.Math.Nat.{mul-sub}
use Rattle.ra_base.specs.declared.ids.Machine.{Machine}
use Rattle.ra_base.proofs.Sums.{total_balance, total_of_sum, total_same}
use Rattle.ra_base.proofs.Greatest.{greatest_same}
use Rattle.ra_model.specs.declared.raw.Tables.{Tables}
use Rattle.ra_model.specs.Numbers.{resource_count, machine_count, process_count, balance_count, service_of, requirement_of, first_of, second_of, target_of, balance_weight_of, process_weight_of, process_cost_of, machine_weight_of, way_cost_of}
use Rattle.ra_model.specs.Limits.{WellFormed}
use Rattle.ra_model.specs.Assignments.{IsAssignment, machine_at}
use Rattle.ra_model.specs.Usage.{use_of}
use Rattle.ra_model.specs.Services.{moved_of}
use Rattle.ra_model.specs.Costs.{available, process_share, way_share, service_cost, objective}
use Rattle.ra_model.specs.MachineCosts.{load_share, row_load, row_left, balance_share, row_balance, machine_load, machine_balance}
use Rattle.ra_model.specs.Situations.{Situation, cost_at, moved_at, service_cost_at, IsSound}
use Rattle.ra_model.proofs.BoundLemmas.{moved_within, objective_under}
use Rattle.ra_cells.specs.Marks.{away}
use Rattle.ra_moves.specs.Replacing.{after_move}
use Rattle.ra_moves.specs.Weighing.{local_cost}
use Rattle.ra_rows.specs.FilterRows.{load_asked, load_row, first_asked, first_row, second_asked, second_row}
use Rattle.ra_shift.specs.Arriving.{steps_to, room_below, BreaksNothing, cost_after, service_now, cost_added, cost_taken, sum_at, IsCostBelow, IsSumBelow}
use Rattle.ra_shift.specs.Conditions.{shifted, HasRoom}
use Rattle.ra_shift.specs.Sharing.{use_without, use_with, row_cost_with, cost_of, way_cost}
use Rattle.ra_shift.specs.Filter.{load_above, balance_above, saved, filter_sum, moved_away, service_away, base_added, base_taken, IsFiltered}
use Rattle.ra_shift.proofs.RoomLaws.{IsStart}
use Rattle.ra_shift.proofs.MemberLaws.{members_other}
use Rattle.ra_shift.proofs.AllowLaws.{at_of, start_of, allowed, applied_one, apart_after}
use Rattle.ra_shift.proofs.ChangeLaws.{cost_changes, cost_entered, cost_left, moved_mine}

-- one objective, over plain numbers: y of x comes, and q of a
lack_comes : (x y a q : ℕ) → y ≤ x → q ≤ a →
    (x - y - (a - q)) + (y - q) ≡ (x - a) + ((y - q - (x - a)) + (q - y - (a - x)))
lack_comes x y a q first second = omega (arith, first, second)

weighed_comes : (w x y a q : ℕ) → y ≤ x → q ≤ a → w * (x - y - (a - q)) + w * (y - q) ≡ w * (x - a)
    + ((w * (y - q) - w * (x - a)) + (w * (q - y) - w * (a - x)))
weighed_comes w x y a q first second =
    let whole = ap (λ n. w * n) (lack_comes x y a q first second) in
    omega (arith, whole, mul-sub w (y - q) (x - a), mul-sub w (q - y) (a - x))

module _ (i : Tables) (a : List Machine) (p m : ℕ) where
  module _ (r : ℕ) where
    -- one resource: what comes above the safety capacity
    share_comes : load_share i m (use_with i a p m) r ≡
        load_share i m (use_of i a m) r + (load_asked i p r - load_row i a m r)
    unfolding load_share use_with load_asked load_row
    share_comes = grind (arith, mul-sub)

    -- what is left of a resource of a machine that a process enters
    left_with : row_left i m (use_with i a p m) r ≡ available i a m r
        - requirement_of i p r
    unfolding row_left use_with available
    left_with = omega arith

    room_left : HasRoom i a p m → r < resource_count i →
        requirement_of i p r ≤ available i a m r
    unfolding available
    room_left room within = omega (arith, room.each r within)

  -- what a process adds to the load cost of a machine
  pub load_comes : row_load i m (use_with i a p m) ≡ machine_load i a m
      + load_above i a p m
  unfolding row_load machine_load load_above
  load_comes = total_same (resource_count i) _ _ (λ r within. share_comes r)
      ∙ total_of_sum (resource_count i) (load_share i m (use_of i a m)) (λ r. load_asked i p r - load_row i a m r)

  balance_comes_at : (b : ℕ) → WellFormed i → HasRoom i a p m → b < balance_count i →
      balance_share i m (use_with i a p m) b + first_asked i p b ≡ balance_share i m (use_of i a m) b
      + ((first_asked i p b - first_row i a m b) + (second_asked i p b - second_row i a m b))
  unfolding balance_share first_asked first_row second_asked second_row row_left available
  balance_comes_at b limits room within =
      let w = balance_weight_of i b in
      let t = target_of i b in
      let one = first_of i b in
      let two = second_of i b in
      let a1 = available i a m one in
      let a2 = available i a m two in
      let q1 = requirement_of i p one in
      let q2 = requirement_of i p two in
      let first_room = room_left one room (limits.firsts b within) in
      let second_room = room_left two room (limits.seconds b within) in
      let same = ap₂ (λ x y. w * (t * x - y)) (left_with one) (left_with two) in
      let spread = ap (λ x. w * (x - (a2 - q2))) (mul-sub t a1 q1) in
      let law = weighed_comes w (t * a1) (t * q1) a2 q2 (mul-le-mul_left t first_room) second_room in
      ap (λ x. x + w * (t * q1 - q2)) (same ∙ spread) ∙ law

  -- what a process with room adds to the balance cost of a machine
  pub balance_comes : WellFormed i → HasRoom i a p m →
      row_balance i m (use_with i a p m) + saved i p ≡ machine_balance i a m + balance_above i a p m
  unfolding row_balance machine_balance saved balance_above
  balance_comes limits room =
      total_balance (balance_count i) _ _ _ _ (λ b within. balance_comes_at b limits room within)

  -- both costs of the machine that is entered
  cost_comes : WellFormed i → HasRoom i a p m →
      row_cost_with i m (use_with i a p m) + saved i p ≡ cost_of i a m + load_above i a p m + balance_above i a p m
  unfolding row_cost_with cost_of
  cost_comes limits room = omega (arith, load_comes, balance_comes limits room)

-- the costs of a way that doesn't end at home
way_away : (i : Tables) (a0 : List Machine) (p to : ℕ) → machine_at a0 p ≢ to →
    way_cost i a0 p to ≡ process_weight_of i * process_cost_of i p + machine_weight_of i * way_cost_of i
    (machine_at a0 p) to
unfolding way_cost process_share way_share
way_away i a0 p to apart = grind arith

-- moved counts if p is away from home
counts_away : (home to : ℕ) → home ≢ to → away home to ≡ 1
unfolding away
counts_away home to apart = rw (ne_eqb home to apart)

objective_parts : (st : Situation) → cost_at st ≡ local_cost st + service_cost_at st
unfolding objective local_cost
objective_parts st = omega arith

module _ (st : Situation) (p : ℕ) where
  pub away_mine : (n s : ℕ) → s ≡ service_of st.tables p →
      n ≡ moved_at st (service_of st.tables p) + 1 - away (machine_at st.start p) (machine_at st.here p) →
      n ≡ moved_away st p s
  unfolding moved_away
  away_mine n s mine is = grind (arith, eq-eqb)

  pub away_other : (n s : ℕ) → s ≢ service_of st.tables p → n ≡ moved_at st s →
      n ≡ moved_away st p s
  unfolding moved_away
  away_other n s other is = grind arith

  module _ (to : ℕ) where
    module _ (s : ℕ) where
      moved_other : IsAssignment st.tables st.here → p < process_count st.tables →
          service_of st.tables p ≢ s → moved_at (record st { here = shifted st.here p to }) s ≡ moved_at st s
      unfolding moved_of
      moved_other fits within other = members_other st.tables st.here p to s _ fits within other

      pub moved_once_away : IsAssignment st.tables st.here → p < process_count st.tables →
          machine_at st.start p ≢ to → moved_at (record st { here = shifted st.here p to }) s ≡ moved_away st p s
      moved_once_away fits within apart = grind (arith, moved_mine, counts_away, away_mine, away_other, moved_other)

      -- the moved count of another service stays
      pub count_stays : IsAssignment st.tables st.here → p < process_count st.tables →
          s ≢ service_of st.tables p → moved_at st s ≡ moved_at (record st { here = shifted st.here p to }) s
      count_stays fits within other = sym (moved_other fits within (λ same. other (sym same)))

    service_then : IsAssignment st.tables st.here → p < process_count st.tables →
        machine_at st.start p ≢ to → service_cost_at (record st { here = shifted st.here p to }) ≡ service_away st p
    unfolding service_cost service_away
    service_then fits within apart = grind (arith, greatest_same, moved_once_away)

    -- the whole change
    pub filtered : IsStart st p to → HasRoom st.tables st.here p to →
        machine_at st.start p ≢ to → IsFiltered st p to
    unfolding base_added base_taken filter_sum
    filtered h room apart = record {
      cost = omega (
        arith,
        cost_changes st p to h,
        cost_entered st p to h,
        cost_left st p to h,
        cost_comes st.tables st.here p to h.formed room,
        way_away st.tables st.start p to apart,
        service_then h.fits h.known apart,
        objective_parts st,
        objective_parts (record st { here = shifted st.here p to }),
      );
    }

    -- and if p comes home
    pub home_change : IsStart st p to →
        cost_at (record st { here = shifted st.here p to })
        + (cost_of st.tables st.here (machine_at st.here p) + way_cost st.tables st.start p (machine_at st.here p)
        + cost_of st.tables st.here to + service_cost_at st) ≡
        cost_at st + (row_cost_with st.tables (machine_at st.here p) (use_without st.tables st.here p)
        + row_cost_with st.tables to (use_with st.tables st.here p to)
        + way_cost st.tables st.start p to + service_cost_at (record st { here = shifted st.here p to }))
    home_change h = omega (
      arith,
      cost_changes st p to h,
      cost_entered st p to h,
      cost_left st p to h,
      objective_parts st,
      objective_parts (record st { here = shifted st.here p to }),
    )

  -- none is above the number of all processes
  pub moved_away_few : (s : ℕ) → IsAssignment st.tables st.here → p < process_count st.tables →
      moved_away st p s ≤ process_count st.tables
  moved_away_few s fits within =
      omega (
        arith,
        moved_within st.tables st.start (shifted st.here p (machine_at st.start p + 1)) s,
        moved_once_away (machine_at st.start p + 1) s fits within (λ same. absurd (omega (arith, same))),
      )

module _ (w : Situation) (p to : ℕ) where
  -- in a world
  pub filtered_at : IsSound w → p < process_count w.tables →
      to < machine_count w.tables →
      BreaksNothing w p to → machine_at w.start p ≢ to → cost_after w p to + cost_taken w p ≡ cost_added w p
      + sum_at w p to
  filtered_at sound known reach free apart =
      let at = at_of w p to sound known reach in
      let allows = allowed w p to at free in
      let law = filtered w p to (start_of w p to at allows.apart) allows.room apart in
      ap (λ b. cost_at (record w { here = b }) + base_taken w p) (applied_one w.here p to) ∙ law.cost

  pub home_at : (kept without before now with way here service : ℕ) → IsSound w →
      p < process_count w.tables → to < machine_count w.tables → BreaksNothing w p to →
      kept ≡ cost_at w → without ≡ row_cost_with w.tables (machine_at w.here p)
      (use_without w.tables w.here p) →
      before ≡ cost_of w.tables w.here (machine_at w.here p)
      + way_cost w.tables w.start p (machine_at w.here p) → now ≡ service_now w →
      with ≡ row_cost_with w.tables to (use_with w.tables w.here p to) →
      way ≡ way_cost w.tables w.start p to →
      here ≡ cost_of w.tables w.here to →
      service ≡ service_cost_at (record w { here = shifted w.here p to }) →
      cost_after w p to + (before + here + now) ≡ kept + without + with + way + service
  home_at kept without before now with way here service sound known reach free kept_is without_is before_is now_is
      with_is way_is here_is service_is =
      let at = at_of w p to sound known reach in
      let law = home_change w p to (start_of w p to at (apart_after w p to free)) in
      let after = ap (λ b. cost_at (record w { here = b })) (applied_one w.here p to) in
      omega (arith, law, after, kept_is, without_is, before_is, now_is, with_is, way_is, here_is, service_is)

  -- a machine that adds too much has no cost below the bound
  pub dear_cost : (bound taken added room : ℕ) (sum cost : Option ℕ) → IsSound w →
      p < process_count w.tables → to < machine_count w.tables → machine_at w.start p ≢ to →
      taken ≡ cost_taken w p → added ≡ cost_added w p → room ≡ bound + taken - added → IsSumBelow w p to room sum →
      sum ≡ None → cost ≡ None → IsCostBelow w p to bound cost
  dear_cost bound taken added room sum cost sound known reach apart taken_is added_is room_is sums sum_none none =
      grind (arith, filtered_at)

  -- nor has one if the shift breaks something
  pub broken_cost : (bound : ℕ) → (BreaksNothing w p to → ⊥) → IsCostBelow w p to bound None
  broken_cost bound broken = grind arith

  module _ (taken added n : ℕ) (sound : IsSound w) (known : p < process_count w.tables)
      (reach : to < machine_count w.tables) (apart : machine_at w.start p ≢ to) (taken_is : taken ≡ cost_taken w p)
      (added_is : added ≡ cost_added w p) (n_is : n ≡ sum_at w p to) (free : BreaksNothing w p to) where
    -- one that adds a sum has the cost that follows
    pub cost_summed : added + n ≡ cost_after w p to + taken
    cost_summed = omega (arith, filtered_at sound known reach free apart, taken_is, added_is, n_is)

    pub summed_few : added + n < 2 ^ 114 + taken
    summed_few = omega (
      arith,
      cost_summed,
      objective_under w.tables w.start (after_move w (steps_to w p to)).here sound.well_formed sound.small,
    )

    pub summed_below : (bound : ℕ) → n < room_below w p bound → IsCostBelow w p to bound (Some (added + n - taken))
    summed_below bound low = grind (arith, cost_summed)

  pub sum_some : (bound sum : ℕ) → sum < bound → sum ≡ sum_at w p to →
      IsSumBelow w p to bound (Some sum)
  sum_some bound sum below is = grind arith

  pub sum_parts : (weight cost way load balance : ℕ) → weight ≡ machine_weight_of w.tables →
      cost ≡ way_cost_of w.tables (machine_at w.start p) to → way ≡ weight * cost →
      load ≡ load_above w.tables w.here p to →
      balance ≡ balance_above w.tables w.here p to → way + load + balance ≡ sum_at w p to
  unfolding filter_sum
  sum_parts weight cost way load balance weight_is cost_is way_is load_is balance_is = grind arith

  -- what the machine itself adds, without the way to it, and the load alone
  pub sum_without_way : (load balance : ℕ) →
      load ≡ load_above w.tables w.here p to →
      balance ≡ balance_above w.tables w.here p to → load + balance ≤ sum_at w p to
  sum_without_way load balance load_is balance_is =
      omega (
        arith,
        sum_parts (machine_weight_of w.tables)
            (way_cost_of w.tables (machine_at w.start p) to)
            (machine_weight_of w.tables * way_cost_of w.tables (machine_at w.start p) to)
            load balance refl refl refl load_is balance_is,
      )

  pub sum_load : (load : ℕ) →
      load ≡ load_above w.tables w.here p to → load ≤ sum_at w p to
  sum_load load load_is = grind (arith, sum_without_way)

-- the sum of a machine, if its parts are found
pub sum_none : (w : Situation) (p to bound part : ℕ) → bound ≤ part → part ≤ sum_at w p to →
    IsSumBelow w p to bound None
sum_none w p to bound part above within = grind arith
