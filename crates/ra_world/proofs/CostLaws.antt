-- Bounds of products, and the changes of the parts of the cost where one process goes to another machine.
use Rattle.std.proofs.Common.{◌≡◌, ℕ, ◌+◌, ◌-◌, ◌*◌, ◌^◌, ◌<◌, ◌≤◌, List, length, set, slice_index, refl, ap}
use Rattle.std.proofs.Common.{arith, mul-le-mul_left}
use Rattle.std.proofs.lemmas.Nat.{mul-le, mul-lt}
use Rattle.ra_base.specs.Sums.{greatest}
use Rattle.ra_base.specs.declared.ids.Machine.{Machine}
use Rattle.ra_base.proofs.Greatest.{greatest_same}
use Rattle.ra_model.specs.declared.raw.BalanceRow.{BalanceRow}
use Rattle.ra_model.specs.declared.raw.Tables.{Tables}
use Rattle.ra_model.specs.Numbers.{resource_count, process_count, service_count, balance_count, balance_row, first_of}
use Rattle.ra_model.specs.Numbers.{second_of, target_of, balance_weight_of, process_weight_of, service_weight_of}
use Rattle.ra_model.specs.Numbers.{machine_weight_of}
use Rattle.ra_model.specs.Limits.{WellFormed}
use Rattle.ra_model.specs.Assignments.{IsAssignment, machine_at, tally}
use Rattle.ra_model.specs.Services.{moved_of}
use Rattle.ra_model.specs.Costs.{process_share, process_cost, service_cost, way_share, machine_cost}
use Rattle.ra_model.specs.MachineCosts.{row_left, balance_share}
use Rattle.ra_model.proofs.InstanceLemmas.{first_read, second_read}
use Rattle.ra_model.proofs.TallyLemmas.{tally_set, tally_term}

module _ (weight x : ℕ) (light : weight < 2 ^ 32) where
  -- a weight times a number of 64 bits, and one of 32
  pub product_below : x < 2 ^ 64 → weight * x ≤ 2 ^ 96
  product_below few = grind (arith, mul-le)

  pub product_small : x < 2 ^ 32 → weight * x < 2 ^ 64
  product_small few = mul-lt weight x _ _ light few

-- process p goes to another machine

weighed_set : (w n p : ℕ) (f : ℕ → ℕ → ℕ) (a : List Machine) (to : Machine) → p < n → p < length a →
    w * tally n f (set a p to) + w * f p (machine_at a p) ≡ w * tally n f a + w * f p to.0
weighed_set w n p f a to within there =
    let change = ap (λ x. w * x) (tally_set n p f a to within there) in omega (arith, change)

module _ (i : Tables) (a0 : List Machine) where
  module _ (a : List Machine) where
    module _ (p : ℕ) (to : Machine) (fits : IsAssignment i a) (within : p < process_count i) where
      pub process_set : process_cost i a0 (set a p to) + process_weight_of i * process_share i a0 p (machine_at a p) ≡
          process_cost i a0 a + process_weight_of i * process_share i a0 p to.0
      unfolding process_cost
      process_set = weighed_set _ _ p _ a to
          within (omega (arith, fits.one_each))

      pub machine_set : machine_cost i a0 (set a p to) + machine_weight_of i * way_share i a0 p (machine_at a p) ≡
          machine_cost i a0 a + machine_weight_of i * way_share i a0 p to.0
      unfolding machine_cost
      machine_set =
          weighed_set _ _ p _ a to within
          (omega (arith, fits.one_each))

    module _ (p : ℕ) (within : p < process_count i) where
      -- what a process adds to a part is in it

      pub process_counted : process_weight_of i * process_share i a0 p (machine_at a p) ≤ process_cost i a0 a
      unfolding process_cost
      process_counted =
          mul-le-mul_left (process_weight_of i) (tally_term (process_count i) p (process_share i a0) a within)

      pub machine_counted : machine_weight_of i * way_share i a0 p (machine_at a p) ≤ machine_cost i a0 a
      unfolding machine_cost
      machine_counted =
          mul-le-mul_left (machine_weight_of i) (tally_term (process_count i) p (way_share i a0) a within)

    -- the greatest of the kept counts is that of the moved counts
    pub service_from : (counts : List ℕ) (weight most : ℕ) → length counts ≡ service_count i →
        ((s : ℕ) → s < service_count i → slice_index counts s ≡ moved_of i a0 a s) → weight ≡ service_weight_of i →
        most ≡ greatest (length counts) (slice_index counts) → weight * most ≡ service_cost i a0 a
    unfolding service_cost
    service_from counts weight most long moved weight_is most_is = grind (arith, greatest_same)

-- the cost of one balance objective, from the numbers that are read for it
pub balance_share_from : (i : Tables) (m : ℕ) (u : ℕ → ℕ) (b : ℕ) (row : BalanceRow) (first second target weight : ℕ) →
    row ≡ balance_row i b → first ≡ row_left i m u row.first.0 → second ≡ row_left i m u row.second.0 →
    target ≡ row.target → weight ≡ row.weight → weight * (target * first - second) ≡ balance_share i m u b
unfolding balance_share first_of second_of target_of balance_weight_of
balance_share_from i m u b row first second target weight is first_is second_is target_is weight_is =
    rw (first_is, second_is, target_is, weight_is, is) refl

module _ (i : Tables) (b : ℕ) (row : BalanceRow) (limits : WellFormed i) (within : b < balance_count i)
    (is : row ≡ balance_row i b) where
  -- the resources of an objective are those of the instance
  pub first_within : row.first.0 < resource_count i
  first_within = omega (arith, limits.firsts b within, first_read i b row is)

  pub second_within : row.second.0 < resource_count i
  second_within = omega (arith, limits.seconds b within, second_read i b row is)
