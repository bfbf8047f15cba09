-- How far an assignment is from meeting all constraints: six sums, each of which is 0 exactly if its constraint is met.
-- ℕ's minus is never negative.
use Rattle.std.specs.Prelude.{ℕ, ◌+◌, ◌-◌, List, if◌then◌else◌, ◌==◌, ◌&&◌, not}
use Rattle.ra_base.specs.Sums.{total, one_if}
use Rattle.ra_base.specs.declared.ids.Machine.{Machine}
use Rattle.ra_model.specs.declared.raw.Tables.{Tables}
use Rattle.ra_model.specs.Numbers.{resource_count, machine_count, service_count, process_count, transient_at}
use Rattle.ra_model.specs.Numbers.{capacity_of, spread_of, dependency_count, closed_at}
use Rattle.ra_model.specs.Assignments.{machine_at, tally}
use Rattle.ra_model.specs.Usage.{use_of, transient_of}
use Rattle.ra_model.specs.Services.{is_of, on_machine, locations_of}
use Rattle.ra_model.specs.Broken.{near_of}

-- max(0, U(m, r) - C(m, r)): the use of resource r of machine m above its capacity
unfoldable pub use_above : Tables → List Machine → ℕ → ℕ → ℕ
use_above i a m r = use_of i a m r - capacity_of i m r

-- the sum of this over all resources of machine m, and over all machines
unfoldable pub row_above : Tables → List Machine → ℕ → ℕ
row_above i a m = total (resource_count i) (use_above i a m)

unfoldable pub capacity_penalty : Tables → List Machine → ℕ
capacity_penalty i a = total (machine_count i) (row_above i a)

-- max(0, T(m, r) - C(m, r)) for a transient resource r
unfoldable pub transient_above : Tables → List Machine → List Machine → ℕ → ℕ → ℕ
transient_above i a0 a m r =
    if transient_at i r then transient_of i a0 a m r - capacity_of i m r else 0

unfoldable pub row_transient_above : Tables → List Machine → List Machine → ℕ → ℕ
row_transient_above i a0 a m = total (resource_count i) (transient_above i a0 a m)

unfoldable pub transient_penalty : Tables → List Machine → List Machine → ℕ
transient_penalty i a0 a = total (machine_count i) (row_transient_above i a0 a)

-- max(0, n - 1), if n processes of service s are on machine m
unfoldable pub crowd_on : Tables → List Machine → ℕ → ℕ → ℕ
crowd_on i a s m = on_machine i a s m - 1

-- the sum of this over all machines, and over all services
unfoldable pub service_crowd : Tables → List Machine → ℕ → ℕ
service_crowd i a s = total (machine_count i) (crowd_on i a s)

unfoldable pub conflict_penalty : Tables → List Machine → ℕ
conflict_penalty i a = total (service_count i) (service_crowd i a)

-- max(0, spreadMin(s) - locations of s)
unfoldable pub spread_lack : Tables → List Machine → ℕ → ℕ
spread_lack i a s = spread_of i s - locations_of i a s

unfoldable pub spread_penalty : Tables → List Machine → ℕ
spread_penalty i a = total (service_count i) (spread_lack i a)

-- 1 for a process p of service s that has no process of the service of dependency k of s in its neighbourhood
unfoldable pub far_share : Tables → List Machine → ℕ → ℕ → ℕ → ℕ
far_share i a s k p = one_if (is_of i s p && (near_of i a s k p == 0))

-- the sum of this over all processes, over all dependencies of service s, and over all services
unfoldable pub pair_far : Tables → List Machine → ℕ → ℕ → ℕ
pair_far i a s k = total (process_count i) (far_share i a s k)

unfoldable pub service_far : Tables → List Machine → ℕ → ℕ
service_far i a s = total (dependency_count i s) (pair_far i a s)

unfoldable pub dependency_penalty : Tables → List Machine → ℕ
dependency_penalty i a = total (service_count i) (service_far i a)

-- 1 for a process p that is on machine `at`, which is closed and isn't its initial one
unfoldable pub closed_share : Tables → List Machine → ℕ → ℕ → ℕ
closed_share i a0 p at = one_if (closed_at i at && not (machine_at a0 p == at))

unfoldable pub closed_penalty : Tables → List Machine → List Machine → ℕ
closed_penalty i a0 a = tally (process_count i) (closed_share i a0) a

-- the penalty: the sum of all six
unfoldable pub penalty : Tables → List Machine → List Machine → ℕ
penalty i a0 a =
    capacity_penalty i a + transient_penalty i a0 a + conflict_penalty i a + spread_penalty i a +
    dependency_penalty i a + closed_penalty i a0 a
