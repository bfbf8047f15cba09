-- What an edit can break of two lists that were feasible before it: only what it touches.
use Rattle.std.specs.Prelude.{ℕ, List, Option, None, if◌then◌else◌, ◌==◌, ◌&&◌, nat_lt}
use Rattle.ra_base.specs.Searches.{or_else, first}
use Rattle.ra_base.specs.declared.ids.Machine.{Machine}
use Rattle.ra_base.specs.declared.causes.Cause.{Cause}
use Rattle.ra_base.specs.declared.causes.Cause.TheVariants.{Dependency}
use Rattle.ra_model.specs.declared.raw.Tables.{Tables}
use Rattle.ra_model.specs.Numbers.{service_count, dependency_count, need_of, neighbourhood_of}
use Rattle.ra_model.specs.Services.{in_neighbourhood}
use Rattle.ra_model.specs.Relations.{depends}
use Rattle.ra_model.specs.Broken.{cause_if, row_capacity, row_transient, conflict_test, spread_test}

-- no process of the service of dependency k of service s is in a neighbourhood
unfoldable pub far_from : Tables → List Machine → ℕ → ℕ → ℕ → Option Cause
far_from i a s label k =
    cause_if (in_neighbourhood i a (need_of i s k) label == 0)
    (Dependency (record { 0 = s }) (record { 0 = need_of i s k }) label)

-- a process more, of service s on machine m, which is its initial machine too: the capacity and the transient use of
-- the machine, a conflict there, and what its service depends on
unfoldable pub added_breaks : Tables → List Machine → List Machine → ℕ → ℕ → Option Cause
added_breaks i a0 a s m =
    or_else (row_capacity i a m)
    (or_else (row_transient i a0 a m)
    (or_else (conflict_test i a s m)
    (first (dependency_count i s) (far_from i a s (neighbourhood_of i m)))))

-- no process of service s is in a neighbourhood that has one of service u, which depends on s
unfoldable pub cause_if_left_alone : Tables → List Machine → ℕ → ℕ → ℕ → Option Cause
cause_if_left_alone i a s label u =
    cause_if (in_neighbourhood i a s label == 0 && nat_lt 0 (in_neighbourhood i a u label))
    (Dependency (record { 0 = u }) (record { 0 = s }) label)

-- `left_alone`, asked only of a service u that depends on service s
unfoldable pub left_by : Tables → List Machine → ℕ → ℕ → ℕ → Option Cause
left_by i a s label u = if depends i u s then cause_if_left_alone i a s label u else None

-- a process less, of service s in a neighbourhood: the spread of its service, and the processes in the neighbourhood
-- that depend on it
unfoldable pub retired_breaks : Tables → List Machine → ℕ → ℕ → Option Cause
retired_breaks i a s label =
    or_else (spread_test i a s) (first (service_count i) (left_by i a s label))

-- the first thing that is found at two machines, in the order of their numbers
unfoldable pub first_of_two : ℕ → ℕ → (ℕ → Option Cause) → Option Cause
first_of_two m n f = if nat_lt m n then or_else (f m) (f n) else or_else (f n) (f m)

-- other requirements of a process: the capacity of its machine, and the transient use of its initial machine and of its
-- machine
unfoldable pub resized_breaks : Tables → List Machine → List Machine → ℕ → ℕ → Option Cause
resized_breaks i a0 a home here =
    or_else (row_capacity i a here) (first_of_two home here (row_transient i a0 a))
