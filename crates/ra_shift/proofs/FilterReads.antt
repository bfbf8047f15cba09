-- The filter's amounts from the numbers that are read for them.
use Rattle.std.proofs.Common.{◌≡◌, ◌≢◌, ℕ, ◌+◌, ◌-◌, ◌*◌, ◌<◌, List, length, slice_index, Some, None, refl, arith, eq-eqb}
use Rattle.std.proofs.Math.Nat.{mul-sub}
use Rattle.ra_base.specs.declared.ids.Machine.{Machine}
use Rattle.ra_model.specs.declared.raw.BalanceRow.{BalanceRow}
use Rattle.ra_model.specs.declared.raw.Tables.{Tables}
use Rattle.ra_model.specs.Numbers.{balance_count, balance_row, requirement_of, load_weight_of, safety_of, first_of, second_of, target_of, balance_weight_of}
use Rattle.ra_model.specs.Limits.{WellFormed}
use Rattle.ra_model.specs.Usage.{use_of}
use Rattle.ra_model.specs.Costs.{available}
use Rattle.ra_model.proofs.InstanceLemmas.{first_read, second_read}
use Rattle.ra_rows.specs.FilterRows.{load_asked, load_row, first_asked, first_row, second_asked, second_row}
use Rattle.ra_base.specs.Sums.{total, greatest}
use Rattle.ra_base.specs.declared.costs.MovedCount.{MovedCount}
use Rattle.ra_base.proofs.Sums.{total_more}
use Rattle.ra_base.proofs.Greatest.{greatest_same}
use Rattle.ra_cells.specs.Replaced.{counted_after, greatest_with}
use Rattle.ra_rows.specs.Rows.{IsUsageRow}
use Rattle.ra_shift.specs.declared.filter.Asked.{Asked}
use Rattle.ra_shift.specs.Sharing.{AreRequired, HasAsked}

-- one more term
pub more_sum : (n s x : ℕ) (f : ℕ → ℕ) → s ≡ total n f → x ≡ f n → s + x ≡ total (n + 1) f
more_sum n s x f so_far here = grind (arith, total_more)

weighed_more : (w x q y a : ℕ) → w * ((x - q - (y - a)) + (q - x - (a - y))) ≡ (w * (x - q) - w * (y - a))
    + (w * (q - x) - w * (a - y))
weighed_more w x q y a = omega (arith, mul-sub w (x - q) (y - a), mul-sub w (q - x) (a - y))

module _ (i : Tables) where
  -- a row of the same instance
  pub row_in : (j : Tables) (a : List Machine) (m : ℕ) (used : List ℕ) → j ≡ i → IsUsageRow j a m used →
      IsUsageRow i a m used
  row_in j a m used same row = rw same at row

  pub load_more_is : (a : List Machine) (p m r used amount weight safety : ℕ) → used ≡ use_of i a m r →
      amount ≡ requirement_of i p r → weight ≡ load_weight_of i r → safety ≡ safety_of i m r →
      weight * (amount - (safety - used)) ≡ load_asked i p r - load_row i a m r
  unfolding load_asked load_row
  load_more_is a p m r used amount weight safety used_is amount_is weight_is safety_is = grind (arith, mul-sub)

  module _ (p b : ℕ) where
    -- the number at a resource of an objective
    pub required_first : (row : BalanceRow) (required : List ℕ) → WellFormed i →
        b < balance_count i → row ≡ balance_row i b → AreRequired i p required →
        slice_index required row.first.0 ≡ requirement_of i p (first_of i b)
    required_first row required limits within is are = grind (arith, first_read)

    pub required_second : (row : BalanceRow) (required : List ℕ) → WellFormed i →
        b < balance_count i → row ≡ balance_row i b → AreRequired i p required → slice_index required row.second.0 ≡
        requirement_of i p (second_of i b)
    required_second row required limits within is are = grind (arith, second_read)

    pub saved_by_is : (weight : ℕ) (asked : Asked) → weight ≡ balance_weight_of i b → HasAsked i p b asked →
        weight * (asked.wanted - asked.taken) ≡ first_asked i p b
    unfolding first_asked
    saved_by_is weight asked weight_is are = rw (weight_is, are.wanted, are.taken) refl

    pub second_asked_is : (weight : ℕ) (asked : Asked) → weight ≡ balance_weight_of i b → HasAsked i p b asked →
        weight * (asked.taken - asked.wanted) ≡ second_asked i p b
    unfolding second_asked
    second_asked_is weight asked weight_is are = rw (weight_is, are.wanted, are.taken) refl

  -- what an objective has of its row
  pub target_read : (b : ℕ) (row : BalanceRow) → row ≡ balance_row i b → row.target ≡ target_of i b
  unfolding target_of
  target_read b row is = rw is

  pub weight_read : (b : ℕ) (row : BalanceRow) → row ≡ balance_row i b → row.weight ≡ balance_weight_of i b
  unfolding balance_weight_of
  weight_read b row is = rw is

  pub balance_more_is : (a : List Machine) (p m b weight target first second : ℕ) (asked : Asked) →
      weight ≡ balance_weight_of i b → target ≡ target_of i b → first ≡ available i a m (first_of i b) →
      second ≡ available i a m (second_of i b) → HasAsked i p b asked →
      weight * ((asked.wanted - asked.taken - (target * first - second))
      + (asked.taken - asked.wanted - (second - target * first))) ≡
      first_asked i p b - first_row i a m b + (second_asked i p b - second_row i a m b)
  unfolding first_asked first_row second_asked second_row
  balance_more_is a p m b weight target first second asked weight_is target_is first_is second_is are =
      grind (arith, weighed_more)

-- the greatest moved count if that of one service is another
pub with_one : (counts : List ℕ) (c : MovedCount) (n : ℕ) (f : ℕ → ℕ) → length counts ≡ n →
    ((k : ℕ) → k < n → k ≢ c.service.0 → slice_index counts k ≡ f k) → c.after ≡ f c.service.0 →
    greatest_with counts (Some c) None None ≡ greatest n f
unfolding greatest_with counted_after
with_one counts c n f long others here = grind (arith, greatest_same, eq-eqb)
