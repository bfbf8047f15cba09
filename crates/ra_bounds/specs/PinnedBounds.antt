-- The lower bound of an instance and a start: what the pinned processes use above the safety capacities of their
-- machines is load in every feasible assignment.
use Rattle.std.specs.Prelude.{ℕ, ◌+◌, ◌-◌, ◌*◌, max, List}
use Rattle.ra_base.specs.Sums.{total}
use Rattle.ra_base.specs.declared.ids.Machine.{Machine}
use Rattle.ra_model.specs.declared.raw.Tables.{Tables}
use Rattle.ra_model.specs.Numbers.{resource_count, machine_count, load_weight_of, safety_of}
use Rattle.ra_pins.specs.Pinned.{pinned_load}
use Rattle.ra_bounds.specs.Bounds.{overload, balance_bound}
use Rattle.ra_bounds.specs.declared.costs.Bound.{Bound}

-- max(0, sum of R(z, r) over the pinned z with A0(z) = m - SC(m, r))
unfoldable pub pinned_excess : Tables → List Machine → ℕ → ℕ → ℕ
pinned_excess i a0 r m = pinned_load i a0 m r - safety_of i m r

-- the greater of max(0, sum of R(p, r) over p - sum of SC(m, r) over m) and the sum of the pinned excesses over the
-- machines m
unfoldable pub pinned_overload : Tables → List Machine → ℕ → ℕ
pinned_overload i a0 r = max (overload i r) (total (machine_count i) (pinned_excess i a0 r))

-- the load part: the sum over r of loadWeight(r) times this overload
unfoldable pub pinned_load_bound : Tables → List Machine → ℕ
pinned_load_bound i a0 = total (resource_count i) (λ r. load_weight_of i r * pinned_overload i a0 r)

-- the bound: this load part, the balance part of the bound of the instance alone, and their sum
unfoldable pub pinned_bound_of : Tables → List Machine → Bound
pinned_bound_of i a0 =
    record {
      load = pinned_load_bound i a0;
      balance = balance_bound i;
      total = pinned_load_bound i a0 + balance_bound i;
    }
