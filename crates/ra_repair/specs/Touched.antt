-- What a process that goes from one machine to another can change of the penalty: the rows of its two machines, the
-- counts of its service there and in their neighbourhoods, the locations of its service, and its own machine.
use Rattle.std.specs.Prelude.{ℕ, ◌+◌, ◌*◌, List, Bool, if◌then◌else◌, ◌==◌}
use Rattle.ra_base.specs.Sums.{total, count}
use Rattle.ra_base.specs.declared.ids.Machine.{Machine}
use Rattle.ra_model.specs.declared.raw.Tables.{Tables}
use Rattle.ra_model.specs.Numbers.{service_count, dependency_count, need_of, service_of, neighbourhood_of}
use Rattle.ra_model.specs.Assignments.{machine_at}
use Rattle.ra_model.specs.Services.{in_neighbourhood}
use Rattle.ra_repair.specs.Penalty.{row_above, row_transient_above, crowd_on, spread_lack, closed_share}

-- dependency k of service s has no process of its service in the neighbourhood with this label
unfoldable pub is_missing : Tables → List Machine → ℕ → ℕ → ℕ → Bool
is_missing i a s label k = in_neighbourhood i a (need_of i s k) label == 0

-- how many dependencies of service s have no process of the needed service there
unfoldable pub missing_near : Tables → List Machine → ℕ → ℕ → ℕ
missing_near i a s label = count (dependency_count i s) (is_missing i a s label)

-- dependency k of service u is on service s, and how many such dependencies there are
unfoldable pub is_link : Tables → ℕ → ℕ → ℕ → Bool
is_link i s u k = need_of i u k == s

unfoldable pub links : Tables → ℕ → ℕ → ℕ
links i s u = count (dependency_count i u) (is_link i s u)

-- how many processes of another service u there lack one of service s, if s has none there, once for each dependency
unfoldable pub left_alone : Tables → List Machine → ℕ → ℕ → ℕ → ℕ
left_alone i a s label u = if u == s then 0 else links i s u * in_neighbourhood i a u label

unfoldable pub all_alone : Tables → List Machine → ℕ → ℕ → ℕ
all_alone i a s label = total (service_count i) (left_alone i a s label)

-- how many processes there lack one that they need: those of service s, or, if it has none there, those of the others
-- that depend on it
unfoldable pub far_near : Tables → List Machine → ℕ → ℕ → ℕ
far_near i a s label =
    let here = in_neighbourhood i a s label in
    if here == 0 then all_alone i a s label else here * missing_near i a s label

-- how many processes in two neighbourhoods lack one that they need; zero if the two are one, since nothing changes then
unfoldable pub far_between : Tables → List Machine → ℕ → ℕ → ℕ → ℕ
far_between i a s left come = if left == come then 0 else far_near i a s left + far_near i a s come

-- the use above the capacities in the two rows, the transient use above them, and the processes of service s that are
-- too many
unfoldable pub rows_touched : Tables → List Machine → ℕ → ℕ → ℕ
rows_touched i a from to = row_above i a from + row_above i a to

unfoldable pub transient_touched : Tables → List Machine → List Machine → ℕ → ℕ → ℕ
transient_touched i a0 a from to = row_transient_above i a0 a from + row_transient_above i a0 a to

unfoldable pub crowds_touched : Tables → List Machine → ℕ → ℕ → ℕ → ℕ
crowds_touched i a s from to = crowd_on i a s from + crowd_on i a s to

-- all that process p can change of the penalty by going from one machine to another
unfoldable pub touched : Tables → List Machine → List Machine → ℕ → ℕ → ℕ → ℕ
touched i a0 a p from to =
    rows_touched i a from to
    + transient_touched i a0 a from to
    + crowds_touched i a (service_of i p) from to
    + spread_lack i a (service_of i p)
    + far_between i a (service_of i p) (neighbourhood_of i from) (neighbourhood_of i to)
    + closed_share i a0 p (machine_at a p)
