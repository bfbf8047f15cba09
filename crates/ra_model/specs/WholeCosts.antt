-- The balance cost in whole numbers, as the challenge writes it, and the law that it is the balance cost of a feasible
-- assignment.
use Rattle.std.specs.Prelude.{◌≡◌, ℕ, ◌*◌, ℤ, pos, ◌-ℤ◌, ◌*ℤ◌, List}
use Rattle.ra_base.specs.Sums.{total}
use Rattle.ra_base.specs.Whole.{above_zero}
use Rattle.ra_base.specs.declared.ids.Machine.{Machine}
use Rattle.ra_model.specs.declared.raw.Tables.{Tables}
use Rattle.ra_model.specs.Numbers.{machine_count, balance_count, capacity_of, first_of, second_of, target_of}
use Rattle.ra_model.specs.Numbers.{balance_weight_of}
use Rattle.ra_model.specs.Limits.{WellFormed}
use Rattle.ra_model.specs.Usage.{use_of}
use Rattle.ra_model.specs.Feasible.{Feasible}
use Rattle.ra_model.specs.Costs.{balance_cost}

-- A(m, r) = C(m, r) - U(m, r), which is negative if the use is above the capacity
unfoldable pub whole_available : Tables → List Machine → ℕ → ℕ → ℤ
whole_available i a m r = pos (capacity_of i m r) -ℤ pos (use_of i a m r)

-- max(0, target * A(m, r1) - A(m, r2)) of balance objective b
unfoldable pub whole_shortfall : Tables → List Machine → ℕ → ℕ → ℕ
whole_shortfall i a b m =
    above_zero (pos (target_of i b) *ℤ whole_available i a m (first_of i b) -ℤ whole_available i a m (second_of i b))

-- the sum over the objectives of the weight times the sum over m
unfoldable pub whole_balance_cost : Tables → List Machine → ℕ
whole_balance_cost i a =
    total (balance_count i) (λ b. balance_weight_of i b * total (machine_count i) (whole_shortfall i a b))

-- for a feasible assignment it is the balance cost
abbrev pub BalanceIsWhole : Type 0
BalanceIsWhole =
    (i : Tables) (a0 a : List Machine) → WellFormed i → Feasible i a0 a
    → balance_cost i a ≡ whole_balance_cost i a
