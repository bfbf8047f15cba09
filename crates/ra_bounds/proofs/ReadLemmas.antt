-- What the numbers that a program reads say of the bound, and how small they are.
use Rattle.std.proofs.Common.{◌≡◌, ℕ, ◌-◌, ◌^◌, ◌<◌, List, refl, arith, get_or, ℤ}
use Rattle.std.specs.Prelude.{pos, ◌-ℤ◌, ◌*ℤ◌}
use Rattle.ra_base.specs.Whole.{above_zero}
use Rattle.ra_model.specs.declared.raw.BalanceRow.{BalanceRow}
use Rattle.ra_model.specs.declared.raw.Tables.{Tables}
use Rattle.ra_model.specs.Numbers.{resource_count, machine_count, process_count, balance_row, capacity_of}
use Rattle.ra_model.specs.Numbers.{requirement_of}
use Rattle.ra_model.specs.Limits.{WellFormed, Small}
use Rattle.ra_model.proofs.InstanceLemmas.{first_read, second_read, target_read}
use Rattle.ra_bounds.specs.Bounds.{required, safety, capacity, overload, spare, lack}
use Rattle.ra_bounds.specs.Totals.{AreRequirementSums, AreSafeties, AreCapacities}
use Rattle.ra_bounds.proofs.TotalLemmas.{total_small}

-- what an objective lacks
pub lack_from : (i : Tables) (b : ℕ) (row : BalanceRow) (first second : ℤ) → row ≡ balance_row i b →
    first ≡ spare i row.first.0 → second ≡ spare i row.second.0 → above_zero (pos row.target *ℤ first -ℤ second) ≡
    lack i b
unfolding lack
lack_from i b row first second read first_is second_is =
    rw (first_is, second_is, target_read i b row read, first_read i b row read, second_read i b row read) refl

module _ (i : Tables) (r : ℕ) where
  -- what the program subtracts
  pub overload_from : (required_sums safety_sums : List ℕ) → AreRequirementSums i required_sums →
      AreSafeties i safety_sums → r < resource_count i →
      get_or required_sums r 0 - get_or safety_sums r 0 ≡ overload i r
  unfolding overload required safety
  overload_from required_sums safety_sums requires safeties within =
      rw (requires.each r within, safeties.each r within) refl

  pub spare_from : (required_sums capacity_sums : List ℕ) → AreRequirementSums i required_sums →
      AreCapacities i capacity_sums → r < resource_count i →
      pos (get_or capacity_sums r 0) -ℤ pos (get_or required_sums r 0) ≡ spare i r
  unfolding spare required capacity
  spare_from required_sums capacity_sums requires capacities within =
      rw (requires.each r within, capacities.each r within) refl

  -- the sums are small
  pub required_small : (sums : List ℕ) → WellFormed i → Small i → AreRequirementSums i sums →
      r < resource_count i → get_or sums r 0 < 2 ^ 48
  required_small sums limits small sum within =
      omega (
        arith,
        sum.each r within,
        total_small (process_count i) r (requirement_of i) limits.few_processes
            small.requirements,
      )

  pub capacity_small : (sums : List ℕ) → WellFormed i → Small i → AreCapacities i sums →
      r < resource_count i → get_or sums r 0 < 2 ^ 48
  capacity_small sums limits small sum within =
      omega (
        arith,
        sum.each r within,
        total_small (machine_count i) r (capacity_of i)
            (omega (arith, limits.few_machines)) small.capacities,
      )
