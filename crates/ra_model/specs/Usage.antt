-- Use and transient use of the machines' resources.
use Rattle.std.specs.Prelude.{ℕ, List, if◌then◌else◌, ◌==◌, ◌||◌}
use Rattle.ra_base.specs.declared.ids.Machine.{Machine}
use Rattle.ra_model.specs.declared.raw.Tables.{Tables}
use Rattle.ra_model.specs.Numbers.{process_count, requirement_of}
use Rattle.ra_model.specs.Assignments.{machine_at, tally}

-- what process p, which is on machine `at`, uses of resource r of machine m
unfoldable pub use_share : Tables → ℕ → ℕ → ℕ → ℕ → ℕ
use_share i m r p at = if at == m then requirement_of i p r else 0

-- U(m, r): the sum of R(p, r) over the processes p with A(p) = m
unfoldable pub use_of : Tables → List Machine → ℕ → ℕ → ℕ
use_of i a m r = tally (process_count i) (use_share i m r) a

-- what process p, which was on its machine of a0 and is on machine `at`, uses of resource r of machine m in transition
unfoldable pub transient_share : Tables → List Machine → ℕ → ℕ → ℕ → ℕ → ℕ
transient_share i a0 m r p at =
    if (machine_at a0 p == m) || (at == m) then requirement_of i p r else 0

-- T(m, r): the sum of R(p, r) over the processes p with A0(p) = m or A(p) = m, each counted once
unfoldable pub transient_of : Tables → List Machine → List Machine → ℕ → ℕ → ℕ
transient_of i a0 a m r = tally (process_count i) (transient_share i a0 m r) a
