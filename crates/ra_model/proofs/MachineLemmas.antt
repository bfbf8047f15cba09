-- The costs of one machine: they add up to those of the assignment, and how large they can be.
use Rattle.std.proofs.Common.{◌≡◌, ℕ, ◌-◌, ◌*◌, ◌^◌, ◌<◌, ◌≤◌, List, ap, ◌∙◌, arith, lit<}
use Rattle.std.proofs.lemmas.Nat.{mul-lt}
use Rattle.ra_base.specs.Sums.{total}
use Rattle.ra_base.specs.declared.ids.Machine.{Machine}
use Rattle.ra_base.proofs.Sums.{total_same, total_times_swap}
use Rattle.ra_model.specs.declared.raw.Tables.{Tables}
use Rattle.ra_model.specs.Numbers.{resource_count, machine_count, balance_count, load_weight_of, capacity_of, safety_of}
use Rattle.ra_model.specs.Numbers.{first_of, second_of, target_of, balance_weight_of}
use Rattle.ra_model.specs.Limits.{WellFormed, Small}
use Rattle.ra_model.specs.Usage.{use_of}
use Rattle.ra_model.specs.Costs.{excess_on, load_part, load_cost, available, shortfall, balance_part, balance_cost}
use Rattle.ra_model.specs.MachineCosts.{load_share, row_load, row_left, balance_share, row_balance, machine_load}
use Rattle.ra_model.specs.MachineCosts.{machine_balance, LoadIsByMachine, BalanceIsByMachine, AllMachineCostsFit}
use Rattle.ra_model.proofs.BoundLemmas.{total_under, use_under}

-- the sums by machine

pub load_by_machine : LoadIsByMachine
unfolding load_cost load_part excess_on machine_load row_load load_share
load_by_machine i a = total_times_swap (resource_count i) (machine_count i) (load_weight_of i) (excess_on i a)

pub balance_by_machine : BalanceIsByMachine
unfolding balance_cost balance_part shortfall available machine_balance row_balance balance_share row_left
balance_by_machine i a = total_times_swap (balance_count i) (machine_count i) (balance_weight_of i) (shortfall i a)

module _ (i : Tables) (m : ℕ) (u : ℕ → ℕ) where
  -- equal use costs as much

  pub row_load_same : (v : ℕ → ℕ) → ((r : ℕ) → r < resource_count i → u r ≡ v r) → row_load i m u ≡ row_load i m v
  unfolding row_load load_share
  row_load_same v same = total_same (resource_count i) (load_share i m u) (load_share i m v)
      (λ r h. ap (λ x. load_weight_of i r * (x - safety_of i m r)) (same r h))

  pub row_balance_same : (v : ℕ → ℕ) → WellFormed i →
      ((r : ℕ) → r < resource_count i → u r ≡ v r) → row_balance i m u ≡ row_balance i m v
  unfolding row_balance balance_share row_left
  row_balance_same v limits same = total_same (balance_count i) (balance_share i m u) (balance_share i m v) (λ b h.
      ap (λ x. balance_weight_of i b
      * (target_of i b * (capacity_of i m (first_of i b) - x)
      - (capacity_of i m (second_of i b) - u (second_of i b)))) (same (first_of i b) (limits.firsts b h))
      ∙ ap (λ x. balance_weight_of i b
      * (target_of i b * (capacity_of i m (first_of i b) - v (first_of i b))
      - (capacity_of i m (second_of i b) - x))) (same (second_of i b) (limits.seconds b h)))

  -- how large they are, for the first k terms of each

  pub load_share_under : (r : ℕ) → Small i → u r < 2 ^ 48 → load_share i m u r < 2 ^ 80
  unfolding load_share
  load_share_under r small below =
      mul-lt (load_weight_of i r) (u r - safety_of i m r) (2 ^ 32) (2 ^ 48) (small.load_weights r) (omega arith)

  pub row_load_part_under : (k : ℕ) → WellFormed i → Small i →
      ((r : ℕ) → r < resource_count i → u r < 2 ^ 48) → k ≤ resource_count i → total k (load_share i m u) < 2 ^ 85
  row_load_part_under k limits small below part =
      total_under k (2 ^ 5) (2 ^ 80) (load_share i m u) (omega (arith, limits.few_resources)) (lit< tt)
      (λ r h. load_share_under r small (below r (omega arith)))

  pub row_left_under : (r : ℕ) → Small i → row_left i m u r < 2 ^ 32
  unfolding row_left
  row_left_under r small = omega (arith, small.capacities m r)

  pub row_wanted_under : (b r : ℕ) → Small i → target_of i b * row_left i m u r < 2 ^ 64
  row_wanted_under b r small =
      mul-lt (target_of i b) (row_left i m u r) (2 ^ 32) (2 ^ 32) (small.targets b) (row_left_under r small)

  pub balance_share_under : (b : ℕ) → Small i → balance_share i m u b < 2 ^ 96
  unfolding balance_share
  balance_share_under b small =
      let wanted = row_wanted_under b (first_of i b) small in
      mul-lt (balance_weight_of i b) (target_of i b * row_left i m u (first_of i b) - row_left i m u (second_of i b))
      (2 ^ 32) (2 ^ 64) (small.balance_weights b) (omega arith)

  pub row_balance_part_under : (k : ℕ) → WellFormed i → Small i → k ≤ balance_count i →
      total k (balance_share i m u) < 2 ^ 100
  row_balance_part_under k limits small part =
      total_under k (2 ^ 4) (2 ^ 96) (balance_share i m u) (omega (arith, limits.few_balances)) (lit< tt)
      (λ b h. balance_share_under b small)

module _ (i : Tables) (a : List Machine) (m : ℕ) (limits : WellFormed i) (small : Small i) where
  pub machine_load_under : machine_load i a m < 2 ^ 85
  unfolding machine_load row_load
  machine_load_under = row_load_part_under i m (use_of i a m) (resource_count i) limits small
      (λ r h. use_under i a m r limits small) (omega arith)

  pub machine_balance_under : machine_balance i a m < 2 ^ 100
  unfolding machine_balance row_balance
  machine_balance_under =
      row_balance_part_under i m (use_of i a m) (balance_count i) limits small (omega arith)

pub machine_costs_fit : AllMachineCostsFit
machine_costs_fit i a m limits small = record {
  load = machine_load_under i a m limits small;
  balance = machine_balance_under i a m limits small;
}
