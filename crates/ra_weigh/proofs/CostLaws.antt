-- The cost after a move: the cost now with what is added, less what is taken away.
use Rattle.std.proofs.Common.{◌≡◌, ℕ, ◌+◌, ◌*◌, ◌^◌, ◌<◌, ◌≤◌, List, length, get_or, Option, Some, None, refl, ap, ap₂, ◌∙◌, arith}
use Rattle.std.specs.Prelude.{IfSome}
use Rattle.ra_base.specs.Sums.{greatest}
use Rattle.ra_base.specs.declared.costs.MovedCount.{MovedCount}
use Rattle.ra_base.specs.declared.costs.Parts.{Parts}
use Rattle.ra_model.specs.Numbers.{service_count, service_weight_of}
use Rattle.ra_model.specs.Limits.{WellFormed}
use Rattle.ra_model.specs.Costs.{service_cost, objective, parts_of}
use Rattle.ra_model.specs.Situations.{Situation, IsSound, cost_at, parts_at, moved_at, service_cost_at}
use Rattle.ra_model.proofs.BoundLemmas.{objective_under}
use Rattle.ra_cells.specs.MovedCounts.{MovedCounts}
use Rattle.ra_cells.specs.Replaced.{greatest_with, IsChange, AreOfDifferentServices}
use Rattle.ra_cells.specs.Stands.{StandFor}
use Rattle.ra_cells.specs.declared.cells.Cells.{Cells}
use Rattle.ra_moves.specs.declared.steps.Step.{Step}
use Rattle.ra_moves.specs.Replacing.{applied, after_move}
use Rattle.ra_moves.specs.Weighing.{changed_count}
use Rattle.ra_moves.specs.Moving.{MayMove}
use Rattle.ra_moves.specs.SettledNow.{AreMovedOf}
use Rattle.ra_moves.proofs.MovedAfter.{count_changes, counts_apart, greatest_after_move}
use Rattle.ra_weigh.specs.Below.{IsIfBelow}
use Rattle.ra_weigh.specs.EndCosts.{cost_of_ends}
use Rattle.ra_weigh.specs.WayCosts.{IsChangeOfWays}
use Rattle.ra_weigh.specs.declared.amounts.Change.{Change}
use Rattle.ra_weigh.specs.CountLists.{AreCountsOf}
use Rattle.ra_weigh.proofs.ChangeLaws.{rows_change, places_change}

module _ (st : Situation) where
  -- the counts that cells keep are the moved counts of their assignment
  pub counts_of_cells : {cells : Cells} (moved : MovedCounts) → StandFor cells st.tables st.start st.here →
      moved ≡ cells.greatest → AreMovedOf st moved
  counts_of_cells {cells} moved stand is = grind arith

  module _ {steps : List Step} where
    -- the counts of a move are changes of them, of different services
    pub count_change : (moved : MovedCounts) {counts : List (Option MovedCount)} (k : ℕ) → WellFormed st.tables →
        MayMove st steps → AreMovedOf st moved → AreCountsOf st steps (length steps) counts → k < 3 →
        IfSome (get_or counts k None) (λ c. IsChange moved c)
    unfolding changed_count
    count_change moved k limits is moves are few =
        rw (are.each k few) (count_changes st steps moved k limits is moves)

    pub count_apart : {counts : List (Option MovedCount)} (j k : ℕ) → AreCountsOf st steps (length steps) counts →
        j < k → k < 3 → AreOfDifferentServices (get_or counts j None) (get_or counts k None)
    unfolding changed_count
    count_apart j k are before few =
        rw (are.each j (omega arith), are.each k few) (counts_apart st steps j k before)

    -- the greatest of them after the move
    pub greatest_then : (moved : MovedCounts) (counts : List (Option MovedCount)) → MayMove st steps →
        AreMovedOf st moved → AreCountsOf st steps (length steps) counts →
        greatest_with moved.counts (get_or counts 0 None) (get_or counts 1 None) (get_or counts 2 None) ≡
        greatest (service_count st.tables) (moved_at (after_move st steps))
    unfolding changed_count
    greatest_then moved counts is moves are = grind (arith, greatest_after_move)

  pub service_is : (weight most cost : ℕ) → cost ≡ weight * most → weight ≡ service_weight_of st.tables →
      most ≡ greatest (service_count st.tables) (moved_at st) → cost ≡ service_cost_at st
  unfolding service_cost
  service_is weight most cost is weighs greatest = is ∙ ap₂ (λ w m. w * m) weighs greatest

module _ {st : Situation} {parts : Parts} (sound : IsSound st) (are : parts ≡ parts_at st) where
  -- the cost now, as its parts tell it
  pub total_now : parts.total ≡ cost_at st
  unfolding parts_of
  total_now = ap (λ (x : Parts). x.total) are

  service_now : parts.service ≡ service_cost_at st
  unfolding parts_of
  service_now = ap (λ (x : Parts). x.service) are

  pub total_few : parts.total < 2 ^ 114
  total_few = omega (arith, total_now, objective_under st.tables st.start st.here sound.well_formed sound.small)

  -- the service cost is a part of the cost
  pub service_few : parts.service < 2 ^ 114
  unfolding objective
  service_few = omega (arith, service_now, total_now, total_few)

  module _ {steps : List Step} {taken : ℕ} {ways : Change} (move : MayMove st steps)
      (ends : taken ≡ cost_of_ends st.tables st.here steps) (change : IsChangeOfWays st steps ways) where
    -- all together
    pub cost_is : {added service : ℕ} → added ≡ cost_of_ends st.tables (applied st.here steps) steps →
        service ≡ service_cost_at (after_move st steps) →
        parts.total + added + ways.added + service ≡
        cost_at (after_move st steps) + (taken + ways.taken + parts.service)
    unfolding objective
    cost_is rows_come service_comes = grind (arith, total_now, service_now, rows_change, places_change)

    -- without the service cost, and with no more than what the machines and the ways add, it is no higher
    pub cost_least : (rows places bound : ℕ) → rows ≤ cost_of_ends st.tables (applied st.here steps) steps →
        places ≤ ways.added → bound + (taken + parts.service + ways.taken) ≤ parts.total + rows + places →
        bound ≤ cost_at (after_move st steps)
    cost_least rows places bound rows_come places_come high =
        omega (arith, high, rows_come, places_come, cost_is refl refl)

-- a cost below a bound, and one that isn't
pub found_below : (bound cost said : ℕ) → said ≡ cost → said < bound → IsIfBelow bound cost (Some said)
found_below bound cost said is low = grind arith

pub none_below : (bound cost : ℕ) → bound ≤ cost → IsIfBelow bound cost None
none_below bound cost high = grind arith
