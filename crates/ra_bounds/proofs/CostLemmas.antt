-- No feasible assignment costs less than the bound.
use Rattle.std.proofs.Common.{◌≡◌, ℕ, ◌+◌, ◌-◌, ◌*◌, ◌<◌, ◌≤◌, List, arith, mul-le-mul_left}
use Rattle.std.specs.Prelude.{pos}
use Rattle.ra_base.specs.Sums.{total}
use Rattle.ra_base.specs.declared.ids.Machine.{Machine}
use Rattle.ra_base.proofs.Sums.{total_same, total_le, total_grouped, total_of_sum, total_minus, total_times_minus}
use Rattle.ra_base.proofs.Whole.{difference, above_zero_natural}
use Rattle.ra_model.specs.declared.raw.Tables.{Tables}
use Rattle.ra_model.specs.Numbers.{resource_count, machine_count, process_count, balance_count, load_weight_of}
use Rattle.ra_model.specs.Numbers.{capacity_of, safety_of, requirement_of, first_of, second_of, target_of}
use Rattle.ra_model.specs.Numbers.{balance_weight_of}
use Rattle.ra_model.specs.Limits.{WellFormed}
use Rattle.ra_model.specs.Assignments.{IsAssignment, machine_at, tally}
use Rattle.ra_model.specs.Usage.{use_share, use_of}
use Rattle.ra_model.specs.Feasible.{Feasible}
use Rattle.ra_model.specs.Costs.{excess_on, load_part, load_cost, available, shortfall, balance_part, balance_cost}
use Rattle.ra_model.specs.Costs.{objective}
use Rattle.ra_bounds.specs.Bounds.{required, safety, capacity, overload, load_bound, spare, lack, balance_bound}
use Rattle.ra_bounds.specs.Bounds.{bound_of}
use Rattle.ra_bounds.specs.Laws.{NoneCostsLess}

module _ (i : Tables) (a : List Machine) where
  module _ (r : ℕ) (fits : IsAssignment i a) where
    -- the use of all machines is what all processes require, since each process is on one machine
    pub use_total : total (machine_count i) (λ m. use_of i a m r) ≡ required i r
    unfolding use_of use_share tally required
    use_total =
        total_grouped (machine_count i) (process_count i) (machine_at a) (λ p. requirement_of i p r) fits.in_range

    -- what is left above the safety capacities in sum is at most what is above them machine by machine
    pub overload_below : overload i r ≤ total (machine_count i) (excess_on i a r)
    unfolding overload safety excess_on
    overload_below =
        omega (arith, use_total, total_minus (machine_count i) (λ m. use_of i a m r) (λ m. safety_of i m r))

    module _ (within : (m : ℕ) → m < machine_count i → use_of i a m r ≤ capacity_of i m r) where
      -- if no use is above a capacity, what is available of a resource is what is spare of it
      pub available_total : total (machine_count i) (λ m. available i a m r) + required i r ≡ capacity i r
      unfolding available capacity
      available_total =
          omega (
            arith,
            use_total,
            total_of_sum (machine_count i) (λ m. capacity_of i m r - use_of i a m r)
                (λ m. use_of i a m r),
            total_same (machine_count i) (λ m. (capacity_of i m r - use_of i a m r) + use_of i a m r)
                (λ m. capacity_of i m r) (λ m h. omega (arith, within m h)),
          )

      pub spare_is : spare i r ≡ pos (total (machine_count i) (λ m. available i a m r))
      unfolding spare
      spare_is = difference (capacity i r) (required i r) (total (machine_count i) (λ m. available i a m r))
          (available_total)

  pub load_below : IsAssignment i a → load_bound i ≤ load_cost i a
  unfolding load_bound load_cost load_part
  load_below fits = total_le (resource_count i) (λ r. load_weight_of i r * overload i r)
      (λ r. load_weight_of i r * total (machine_count i) (excess_on i a r))
      (λ r within. mul-le-mul_left (load_weight_of i r) (overload_below r fits))

module _ (i : Tables) (a0 a : List Machine) where
  pub lack_below : (b : ℕ) → WellFormed i → IsAssignment i a → Feasible i a0 a →
      b < balance_count i → lack i b ≤ total (machine_count i) (shortfall i a b)
  unfolding lack shortfall
  lack_below b limits fits feasible within =
      let first = spare_is i a (first_of i b) fits
      (λ m h. feasible.capacity m (first_of i b) h (limits.firsts b within)) in
      let second =
      spare_is i a (second_of i b) fits (λ m h. feasible.capacity m (second_of i b) h (limits.seconds b within)) in
      let of_first = total (machine_count i) (λ m. available i a m (first_of i b)) in
      let of_second = total (machine_count i) (λ m. available i a m (second_of i b)) in
      rw (first, second) omega (
        arith,
        above_zero_natural (target_of i b) of_first of_second,
        total_times_minus (machine_count i) (target_of i b) (λ m. available i a m (first_of i b))
            (λ m. available i a m (second_of i b)),
      )

  pub balance_below : WellFormed i → IsAssignment i a → Feasible i a0 a → balance_bound i ≤ balance_cost i a
  unfolding balance_bound balance_cost balance_part
  balance_below limits fits feasible = total_le (balance_count i) (λ b. balance_weight_of i b * lack i b)
      (λ b. balance_weight_of i b * total (machine_count i) (shortfall i a b))
      (λ b within. mul-le-mul_left (balance_weight_of i b) (lack_below b limits fits feasible within))

pub none_costs_less : NoneCostsLess
unfolding bound_of objective
none_costs_less i a0 a limits fits feasible =
    let load = load_below i a fits in
    let balance = balance_below i a0 a limits fits feasible in
    record { load = load; balance = balance; total = omega arith }
