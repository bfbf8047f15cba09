-- The lower bound. Over the natural numbers `a - b` is max(0, a - b); over the signed numbers it is the difference.
use Rattle.std.specs.Prelude.{ℕ, ◌+◌, ◌-◌, ◌*◌, ℤ, pos, ◌-ℤ◌, ◌*ℤ◌}
use Rattle.ra_base.specs.Sums.{total}
use Rattle.ra_base.specs.Whole.{above_zero}
use Rattle.ra_model.specs.declared.raw.Tables.{Tables}
use Rattle.ra_model.specs.Numbers.{resource_count, machine_count, process_count, balance_count, load_weight_of}
use Rattle.ra_model.specs.Numbers.{capacity_of, safety_of, requirement_of, first_of, second_of, target_of}
use Rattle.ra_model.specs.Numbers.{balance_weight_of}
use Rattle.ra_bounds.specs.declared.costs.Bound.{Bound}

-- the sum of R(p, r) over the processes p
unfoldable pub required : Tables → ℕ → ℕ
required i r = total (process_count i) (λ p. requirement_of i p r)

-- the sum of SC(m, r) over the machines m
unfoldable pub safety : Tables → ℕ → ℕ
safety i r = total (machine_count i) (λ m. safety_of i m r)

-- the sum of C(m, r) over the machines m
unfoldable pub capacity : Tables → ℕ → ℕ
capacity i r = total (machine_count i) (λ m. capacity_of i m r)

-- max(0, sum of R(p, r) over p - sum of SC(m, r) over m)
unfoldable pub overload : Tables → ℕ → ℕ
overload i r = required i r - safety i r

-- the load part of the bound: the sum over r of loadWeight(r) times this overload
unfoldable pub load_bound : Tables → ℕ
load_bound i = total (resource_count i) (λ r. load_weight_of i r * overload i r)

-- the signed number: sum of C(m, r) over m - sum of R(p, r) over p
unfoldable pub spare : Tables → ℕ → ℤ
spare i r = pos (capacity i r) -ℤ pos (required i r)

-- max(0, target * a1 - a2) of balance objective b, if a1 and a2 are these signed numbers for its two resources
unfoldable pub lack : Tables → ℕ → ℕ
lack i b = above_zero (pos (target_of i b) *ℤ spare i (first_of i b) -ℤ spare i (second_of i b))

-- the balance part of the bound: the sum over the objectives of the weight times this lack
unfoldable pub balance_bound : Tables → ℕ
balance_bound i = total (balance_count i) (λ b. balance_weight_of i b * lack i b)

-- the bound: its two parts and their sum
unfoldable pub bound_of : Tables → Bound
bound_of i =
    record {
      load = load_bound i;
      balance = balance_bound i;
      total = load_bound i + balance_bound i;
    }
