-- What a table of use says of the costs, and bounds of products.
use Rattle.std.proofs.Common.{◌≡◌, ℕ, ◌-◌, ◌*◌, ◌^◌, ◌<◌, ◌≤◌, List, refl, ◌∙◌, arith, le_trans}
use Rattle.std.proofs.lemmas.Nat.{mul-le}
use Rattle.ra_base.specs.Tables.{cell}
use Rattle.ra_base.specs.declared.ids.Machine.{Machine}
use Rattle.ra_model.specs.declared.raw.Tables.{Tables}
use Rattle.ra_model.specs.Numbers.{resource_count, capacity_of, safety_of, first_of, second_of, target_of}
use Rattle.ra_model.specs.Usage.{use_of}
use Rattle.ra_model.specs.Costs.{excess_on, available, shortfall}
use Rattle.ra_check.specs.Stands.{IsUsage}

-- a weight times a sum over the machines
pub times_below : (weight sum : ℕ) → weight < 2 ^ 32 → sum ≤ 5000 * 2 ^ 64 → weight * sum ≤ 2 ^ 110
times_below weight sum light few = le_trans (mul-le weight sum (2 ^ 32) (5000 * 2 ^ 64) (omega arith) few) (omega arith)

-- the number read is the use
pub use_from : {a : List Machine} {table : List ℕ} {width used : ℕ} (i : Tables) (m r : ℕ) → IsUsage i a table →
    width ≡ resource_count i → r < resource_count i → used ≡ cell width table m r → used ≡ use_of i a m r
unfolding use_of
use_from i m r sums wide column read = rw wide at read ∙ sums.each m r column

pub excess_from : {a : List Machine} {table : List ℕ} {width used safety : ℕ} (i : Tables) (m r : ℕ) →
    IsUsage i a table →
    width ≡ resource_count i → r < resource_count i → used ≡ cell width table m r → safety ≡ safety_of i m r →
    used - safety ≡ excess_on i a r m
unfolding excess_on
excess_from i m r sums wide column read safe =
    rw (use_from i m r sums wide column read, safe) refl

pub available_from : {a : List Machine} {table : List ℕ} {width used capacity : ℕ} (i : Tables) (m r : ℕ) →
    IsUsage i a table → width ≡ resource_count i → r < resource_count i → used ≡ cell width table m r →
    capacity ≡ capacity_of i m r → capacity - used ≡ available i a m r
unfolding available
available_from i m r sums wide column read cap =
    rw (use_from i m r sums wide column read, cap) refl

pub shortfall_from : {first second target : ℕ} (i : Tables) (a : List Machine) (b m : ℕ) →
    first ≡ available i a m (first_of i b) → second ≡ available i a m (second_of i b) → target ≡ target_of i b →
    target * first - second ≡ shortfall i a b m
unfolding shortfall
shortfall_from i a b m first_is second_is target_is = rw (first_is, second_is, target_is) refl

-- a weight times a number of 64 bits
pub times_small : (weight sum : ℕ) → weight < 2 ^ 32 → sum < 2 ^ 64 → weight * sum ≤ 2 ^ 110
times_small weight sum light few =
    le_trans (mul-le weight sum (2 ^ 32) (2 ^ 64) (omega arith) (omega arith)) (omega arith)
