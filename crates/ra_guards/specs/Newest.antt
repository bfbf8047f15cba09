-- The first guard of a move, in guard order, that has a newer version than a place.
use Rattle.std.specs.Prelude.{ℕ, ◌+◌, ◌-◌, Bool, not, ◌&&◌, nat_lt, if◌then◌else◌, List, Option, Some, None}
use Rattle.ra_base.specs.Searches.{or_else, first}
use Rattle.ra_base.specs.declared.ids.Guard.{Guard}
use Rattle.ra_base.specs.declared.ids.Guard.TheVariants as guard
use Rattle.ra_model.specs.declared.raw.Tables.{Tables}
use Rattle.ra_model.specs.Numbers.{machine_count, service_count}
use Rattle.ra_moves.specs.declared.steps.Step.{Step}
use Rattle.ra_guards.specs.Guards.{writes, is_guard}
use Rattle.ra_guards.specs.Order.{guard_of}
use Rattle.ra_guards.specs.declared.newest.Newer.{Newer}

-- a guard with a version above q, and the place of the entry that gave it this version
unfoldable pub newer_at : (Guard → Bool) → (Guard → ℕ) → ℕ → Guard → Option Newer
newer_at test v q g =
    if test g && nat_lt q (v g) then Some (record { guard = g; at = v g - 1 }) else None

-- the first guard of the instance that passes a test and has a version above q
unfoldable pub first_that : Tables → (Guard → Bool) → (Guard → ℕ) → ℕ → Option Newer
first_that i test v q =
    or_else (first (machine_count i) (λ m. newer_at test v q (guard.Machine (record { 0 = m }))))
    (first (service_count i) (λ s. newer_at test v q (guard.Service (record { 0 = s }))))

-- the first guard of a move with a version above q
unfoldable pub first_newer : Tables → List Step → (Guard → ℕ) → ℕ → Option Newer
first_newer i steps v q = first_that i (is_guard i steps) v q

-- a guard of a move that isn't a write guard
unfoldable pub reads_only : Tables → List Step → Guard → Bool
reads_only i steps g = is_guard i steps g && not (writes i steps g)

-- the first guard of a move that isn't a write guard and has a version above q
unfoldable pub first_newer_read : Tables → List Step → (Guard → ℕ) → ℕ → Option Newer
first_newer_read i steps v q = first_that i (reads_only i steps) v q

-- the guard of a number, with the place before its version; none past the guards of the instance
unfoldable pub newer_of : Tables → (Guard → ℕ) → ℕ → Option Newer
newer_of i v n =
    if nat_lt n (machine_count i + service_count i)
    then Some
    (record { guard = guard_of (machine_count i) n; at = v (guard_of (machine_count i) n) - 1 })
    else None
