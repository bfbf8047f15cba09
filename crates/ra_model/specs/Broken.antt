-- The first broken constraint, with the numbers of its cause. The order is this project's: capacity by machine, then
-- resource; transient use by machine, then resource; conflict by service, then machine; spread by service; dependency
-- by service, its dependency in file order, then process; closed by process.
use Rattle.std.specs.Prelude.{ℕ, List, Option, Some, None, Bool, if◌then◌else◌, ◌==◌, ◌&&◌, not, nat_lt}
use Rattle.ra_base.specs.Searches.{or_else, first}
use Rattle.ra_base.specs.declared.ids.Machine.{Machine}
use Rattle.ra_base.specs.declared.causes.Cause.{Cause}
use Rattle.ra_base.specs.declared.causes.Cause.TheVariants.{Capacity, Transient, Conflict, Spread, Dependency, Closed}
use Rattle.ra_model.specs.declared.raw.Tables.{Tables}
use Rattle.ra_model.specs.Numbers.{resource_count, machine_count, service_count, process_count, transient_at}
use Rattle.ra_model.specs.Numbers.{capacity_of, spread_of, dependency_count, need_of, neighbourhood_of, closed_at}
use Rattle.ra_model.specs.Assignments.{machine_at}
use Rattle.ra_model.specs.Usage.{use_of, transient_of}
use Rattle.ra_model.specs.Services.{is_of, on_machine, in_neighbourhood, locations_of}

-- a cause if its test is true
unfoldable pub cause_if : Bool → Cause → Option Cause
cause_if failed cause = if failed then Some cause else None

-- the use of resource r of machine m is above its capacity
unfoldable pub capacity_test : Tables → List Machine → ℕ → ℕ → Option Cause
capacity_test i a m r =
    cause_if (nat_lt (capacity_of i m r) (use_of i a m r))
    (Capacity (record { 0 = m }) (record { 0 = r }) (use_of i a m r) (capacity_of i m r))

unfoldable pub row_capacity : Tables → List Machine → ℕ → Option Cause
row_capacity i a m = first (resource_count i) (capacity_test i a m)

unfoldable pub broken_capacity : Tables → List Machine → Option Cause
broken_capacity i a = first (machine_count i) (row_capacity i a)

-- the transient use of a transient resource r of machine m is above its capacity
unfoldable pub transient_test : Tables → List Machine → List Machine → ℕ → ℕ → Option Cause
transient_test i a0 a m r =
    cause_if (transient_at i r && nat_lt (capacity_of i m r) (transient_of i a0 a m r))
    (Transient (record { 0 = m }) (record { 0 = r }) (transient_of i a0 a m r) (capacity_of i m r))

unfoldable pub row_transient : Tables → List Machine → List Machine → ℕ → Option Cause
row_transient i a0 a m = first (resource_count i) (transient_test i a0 a m)

unfoldable pub broken_transient : Tables → List Machine → List Machine → Option Cause
broken_transient i a0 a = first (machine_count i) (row_transient i a0 a)

-- more than one process of service s is on machine m
unfoldable pub conflict_test : Tables → List Machine → ℕ → ℕ → Option Cause
conflict_test i a s m =
    cause_if (nat_lt 1 (on_machine i a s m)) (Conflict (record { 0 = s }) (record { 0 = m }))

unfoldable pub service_conflict : Tables → List Machine → ℕ → Option Cause
service_conflict i a s = first (machine_count i) (conflict_test i a s)

unfoldable pub broken_conflict : Tables → List Machine → Option Cause
broken_conflict i a = first (service_count i) (service_conflict i a)

-- the processes of service s are in fewer locations than its spread asks for
unfoldable pub spread_test : Tables → List Machine → ℕ → Option Cause
spread_test i a s =
    cause_if (nat_lt (locations_of i a s) (spread_of i s))
    (Spread (record { 0 = s }) (locations_of i a s) (spread_of i s))

unfoldable pub broken_spread : Tables → List Machine → Option Cause
broken_spread i a = first (service_count i) (spread_test i a)

-- how many processes of the service of dependency k of service s are in the neighbourhood of process p
unfoldable pub near_of : Tables → List Machine → ℕ → ℕ → ℕ → ℕ
near_of i a s k p = in_neighbourhood i a (need_of i s k) (neighbourhood_of i (machine_at a p))

-- process p of service s has no process of the service of dependency k in its neighbourhood
unfoldable pub far_test : Tables → List Machine → ℕ → ℕ → ℕ → Option Cause
far_test i a s k p =
    cause_if (near_of i a s k p == 0)
    (Dependency (record { 0 = s }) (record { 0 = need_of i s k })
    (neighbourhood_of i (machine_at a p)))

unfoldable pub dependency_test : Tables → List Machine → ℕ → ℕ → ℕ → Option Cause
dependency_test i a s k p = if is_of i s p then far_test i a s k p else None

unfoldable pub pair_dependency : Tables → List Machine → ℕ → ℕ → Option Cause
pair_dependency i a s k = first (process_count i) (dependency_test i a s k)

unfoldable pub service_dependency : Tables → List Machine → ℕ → Option Cause
service_dependency i a s = first (dependency_count i s) (pair_dependency i a s)

unfoldable pub broken_dependency : Tables → List Machine → Option Cause
broken_dependency i a = first (service_count i) (service_dependency i a)

-- process p is on a closed machine that isn't its initial one
unfoldable pub closed_test : Tables → List Machine → List Machine → ℕ → Option Cause
closed_test i a0 a p =
    cause_if (closed_at i (machine_at a p) && not (machine_at a0 p == machine_at a p))
    (Closed (record { 0 = p }) (record { 0 = machine_at a p }))

unfoldable pub broken_closed : Tables → List Machine → List Machine → Option Cause
broken_closed i a0 a = first (process_count i) (closed_test i a0 a)

-- the first broken constraint of assignment a, reached from a0
unfoldable pub first_broken : Tables → List Machine → List Machine → Option Cause
first_broken i a0 a =
    or_else (broken_capacity i a)
    (or_else (broken_transient i a0 a)
    (or_else (broken_conflict i a)
    (or_else (broken_spread i a)
    (or_else (broken_dependency i a)
    (broken_closed i a0 a)))))
