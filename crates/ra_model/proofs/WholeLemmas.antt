-- For a feasible assignment the balance cost is that in whole numbers.
use Rattle.std.proofs.Common.{◌≡◌, ℕ, ◌-◌, ◌*◌, ◌≤◌, List, sym, ap, arith}
use Rattle.std.specs.Prelude.{pos}
use Rattle.ra_base.specs.declared.ids.Machine.{Machine}
use Rattle.ra_base.proofs.Sums.{total_same}
use Rattle.ra_base.proofs.Whole.{difference, above_zero_natural}
use Rattle.ra_model.specs.declared.raw.Tables.{Tables}
use Rattle.ra_model.specs.Numbers.{machine_count, balance_count, capacity_of, first_of, second_of, target_of}
use Rattle.ra_model.specs.Numbers.{balance_weight_of}
use Rattle.ra_model.specs.Usage.{use_of}
use Rattle.ra_model.specs.Costs.{available, shortfall, balance_part, balance_cost}
use Rattle.ra_model.specs.WholeCosts.{whole_available, whole_shortfall, whole_balance_cost, BalanceIsWhole}

-- what is available, if the use is within the capacity
pub available_is_whole : (i : Tables) (a : List Machine) (m r : ℕ) → use_of i a m r ≤ capacity_of i m r →
    whole_available i a m r ≡ pos (available i a m r)
unfolding available whole_available
available_is_whole i a m r within =
    difference (capacity_of i m r) (use_of i a m r) (capacity_of i m r - use_of i a m r) (omega arith)

pub shortfall_is_whole : (i : Tables) (a : List Machine) (b m : ℕ) →
    use_of i a m (first_of i b) ≤ capacity_of i m (first_of i b) →
    use_of i a m (second_of i b) ≤ capacity_of i m (second_of i b) → shortfall i a b m ≡ whole_shortfall i a b m
unfolding shortfall whole_shortfall
shortfall_is_whole i a b m first second =
    rw (available_is_whole i a m (first_of i b) first, available_is_whole i a m (second_of i b) second)
    (sym (above_zero_natural (target_of i b) (available i a m (first_of i b)) (available i a m (second_of i b))))

pub balance_is_whole : BalanceIsWhole
unfolding balance_cost balance_part whole_balance_cost
balance_is_whole i a0 a limits feasible =
    total_same (balance_count i) _ _
    (λ b b_in. ap (λ (n : ℕ). balance_weight_of i b * n)
    (total_same (machine_count i) _ _
    (λ m m_in. shortfall_is_whole i a b m (feasible.capacity m (first_of i b) m_in (limits.firsts b b_in))
    (feasible.capacity m (second_of i b) m_in (limits.seconds b b_in)))))
