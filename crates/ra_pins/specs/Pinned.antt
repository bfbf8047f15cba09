-- The pinned processes: those that can be on no machine but their initial one, in any assignment that is feasible with
-- respect to the start a0. They are found in rounds. A list of flags x says which processes are known to stay; a round
-- adds those that these block from every other machine.
use Rattle.std.specs.Prelude.{ℕ, zero, suc, ◌+◌, List, Bool, false, if◌then◌else◌, ◌==◌, ◌&&◌, ◌||◌, not, nat_lt}
use Rattle.ra_base.specs.Sums.{count}
use Rattle.ra_base.specs.declared.ids.Machine.{Machine}
use Rattle.ra_model.specs.declared.raw.Tables.{Tables}
use Rattle.ra_model.specs.Numbers.{resource_count, machine_count, process_count, transient_at, capacity_of, service_of}
use Rattle.ra_model.specs.Numbers.{requirement_of, closed_at}
use Rattle.ra_model.specs.Assignments.{machine_at, tally}
use Rattle.ra_model.specs.Usage.{use_of}
use Rattle.ra_model.specs.Services.{is_of}

-- some k below n passes
unfoldable pub some_of : ℕ → (ℕ → Bool) → Bool
some_of n test = nat_lt 0 (count n test)

-- what process z, which starts on machine `at`, requires of resource r of machine m if it is flagged
unfoldable pub flagged_share : Tables → (ℕ → Bool) → ℕ → ℕ → ℕ → ℕ → ℕ
flagged_share i x m r z at = if x z && (at == m) then requirement_of i z r else 0

-- the sum of R(z, r) over the flagged z with A0(z) = m
unfoldable pub flagged_use : Tables → List Machine → (ℕ → Bool) → ℕ → ℕ → ℕ
flagged_use i a0 x m r = tally (process_count i) (flagged_share i x m r) a0

-- on machine m too little of resource r is left for process p by the flagged processes that start there
unfoldable pub lacks : Tables → List Machine → (ℕ → Bool) → ℕ → ℕ → ℕ → Bool
lacks i a0 x p m r = nat_lt (capacity_of i m r) (flagged_use i a0 x m r + requirement_of i p r)

-- resource r is transient, and all processes that start on machine m leave too little of it for process p
unfoldable pub lacks_between : Tables → List Machine → ℕ → ℕ → ℕ → Bool
lacks_between i a0 p m r =
    transient_at i r && nat_lt (capacity_of i m r) (use_of i a0 m r + requirement_of i p r)

-- process z is flagged, is one of service s and starts on machine m
unfoldable pub holds : Tables → List Machine → (ℕ → Bool) → ℕ → ℕ → ℕ → Bool
holds i a0 x s m z = is_of i s z && (x z && (machine_at a0 z == m))

-- a flagged process of service s starts on machine m
unfoldable pub flagged_starts_on : Tables → List Machine → (ℕ → Bool) → ℕ → ℕ → Bool
flagged_starts_on i a0 x s m = some_of (process_count i) (holds i a0 x s m)

-- process p is blocked from machine m: it is closed, or the flagged processes leave too little of some resource, or all
-- that start there leave too little of some transient resource, or a flagged process of the service of p starts there
unfoldable pub blocked : Tables → List Machine → (ℕ → Bool) → ℕ → ℕ → Bool
blocked i a0 x p m =
    closed_at i m
    || (some_of (resource_count i) (lacks i a0 x p m)
    || (some_of (resource_count i) (lacks_between i a0 p m)
    || flagged_starts_on i a0 x (service_of i p) m))

-- a machine other than that of process p, from which p isn't blocked
unfoldable pub is_open : Tables → List Machine → (ℕ → Bool) → ℕ → ℕ → Bool
is_open i a0 x p m = not (m == machine_at a0 p) && not (blocked i a0 x p m)

-- process p is blocked from every other machine: the number of those from which it isn't is zero
unfoldable pub stuck : Tables → List Machine → (ℕ → Bool) → ℕ → Bool
stuck i a0 x p = count (machine_count i) (is_open i a0 x p) == 0

-- a round flags what is flagged and each process that is blocked from every other machine
unfoldable pub round : Tables → List Machine → (ℕ → Bool) → ℕ → Bool
round i a0 x p = x p || stuck i a0 x p

-- what is flagged after n rounds, from no flags
unfoldable pub rounds : Tables → List Machine → ℕ → ℕ → Bool
rounds i a0 zero = λ p. false
rounds i a0 (suc n) = round i a0 (rounds i a0 n)

-- the pinned processes: those that are flagged after as many rounds as there are processes
unfoldable pub is_pinned : Tables → List Machine → ℕ → Bool
is_pinned i a0 = rounds i a0 (process_count i)

-- the sum of R(z, r) over the pinned z with A0(z) = m
unfoldable pub pinned_load : Tables → List Machine → ℕ → ℕ → ℕ
pinned_load i a0 m r = flagged_use i a0 (is_pinned i a0) m r
