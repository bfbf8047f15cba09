-- The costs of one machine: its summands in the load cost and in the balance cost, with their weights, as functions of
-- its row of use, in which u r is the use of resource r. So one definition serves for the use of an assignment, for a
-- use that is kept, and for the use that a move would bring.
use Rattle.std.specs.Prelude.{◌≡◌, ℕ, ◌-◌, ◌*◌, ◌^◌, ◌<◌, List}
use Rattle.ra_base.specs.Sums.{total}
use Rattle.ra_base.specs.declared.ids.Machine.{Machine}
use Rattle.ra_model.specs.declared.raw.Tables.{Tables}
use Rattle.ra_model.specs.Numbers.{resource_count, machine_count, balance_count, load_weight_of, capacity_of, safety_of}
use Rattle.ra_model.specs.Numbers.{first_of, second_of, target_of, balance_weight_of}
use Rattle.ra_model.specs.Limits.{WellFormed, Small}
use Rattle.ra_model.specs.Usage.{use_of}
use Rattle.ra_model.specs.Costs.{load_cost, balance_cost}

-- loadWeight(r) * max(0, u(r) - SC(m, r))
unfoldable pub load_share : Tables → ℕ → (ℕ → ℕ) → ℕ → ℕ
load_share i m u r = load_weight_of i r * (u r - safety_of i m r)

-- the load cost of a machine with this use: the sum over r
unfoldable pub row_load : Tables → ℕ → (ℕ → ℕ) → ℕ
row_load i m u = total (resource_count i) (load_share i m u)

-- what is left of resource r: C(m, r) - u(r)
unfoldable pub row_left : Tables → ℕ → (ℕ → ℕ) → ℕ → ℕ
row_left i m u r = capacity_of i m r - u r

-- the weight of objective b times max(0, target * what is left of its first resource - what is left of its second)
unfoldable pub balance_share : Tables → ℕ → (ℕ → ℕ) → ℕ → ℕ
balance_share i m u b =
    balance_weight_of i b *
    (target_of i b * row_left i m u (first_of i b) - row_left i m u (second_of i b))

-- the balance cost of a machine with this use: the sum over the objectives
unfoldable pub row_balance : Tables → ℕ → (ℕ → ℕ) → ℕ
row_balance i m u = total (balance_count i) (balance_share i m u)

-- the load cost and the balance cost of machine m in an assignment
unfoldable pub machine_load : Tables → List Machine → ℕ → ℕ
machine_load i a m = row_load i m (use_of i a m)

unfoldable pub machine_balance : Tables → List Machine → ℕ → ℕ
machine_balance i a m = row_balance i m (use_of i a m)

-- the load cost is the sum over the machines
abbrev pub LoadIsByMachine : Type 0
LoadIsByMachine =
    (i : Tables) (a : List Machine) → load_cost i a ≡ total (machine_count i) (machine_load i a)

-- the balance cost is the sum over the machines
abbrev pub BalanceIsByMachine : Type 0
BalanceIsByMachine =
    (i : Tables) (a : List Machine)
    → balance_cost i a ≡ total (machine_count i) (machine_balance i a)

-- how large the costs of a machine are at most
pub record MachineCostsFit (i : Tables) (a : List Machine) (m : ℕ) : Type 0 where
  pub load : machine_load i a m < 2 ^ 85
  pub balance : machine_balance i a m < 2 ^ 100

abbrev pub AllMachineCostsFit : Type 0
AllMachineCostsFit =
    (i : Tables) (a : List Machine) (m : ℕ) → WellFormed i → Small i → MachineCostsFit i a m
