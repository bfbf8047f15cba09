-- The guards' numbers in the lock: the machines first, then the services.
use Rattle.std.specs.Prelude.{ℕ, ◌+◌, ◌-◌, Bool, false, List, Option, nat_lt, if◌then◌else◌}
use Rattle.ra_base.specs.declared.ids.Guard.{Guard}
use Rattle.ra_base.specs.declared.ids.Guard.TheVariants as guard
use Rattle.ra_model.specs.declared.raw.Tables.{Tables}
use Rattle.ra_model.specs.Numbers.{machine_count, service_count}
use Rattle.ra_moves.specs.declared.steps.Step.{Step}
use Rattle.ra_guards.specs.Versions.{touches}

-- how many guards an instance has
unfoldable pub guard_count : Tables → ℕ
guard_count i = machine_count i + service_count i

-- machine m has the number m, and service s the machine count plus s
unfoldable pub number_of_guard : Tables → Guard → ℕ
number_of_guard i (guard.Machine m) = m.0
number_of_guard i (guard.Service s) = machine_count i + s.0

-- the entry's steps touch the guard with this number; from the guard count on there is no guard
unfoldable pub touches_number : Tables → Option (List Step) → ℕ → Bool
touches_number i made n =
    if nat_lt n (machine_count i) then touches i made (guard.Machine (record { 0 = n }))
    else if nat_lt n (guard_count i)
    then touches i made (guard.Service (record { 0 = n - machine_count i }))
    else false
