-- Where the processes of a service are, and marks that are stamped there.
use Rattle.std.specs.Prelude.{◌≡◌, ℕ, suc, ◌<◌, List, length, slice_index_or, Option, Some, None, Bool, true, false}
use Rattle.std.specs.Prelude.{if◌then◌else◌, ◌==◌, nat_lt}
use Rattle.ra_base.specs.Sums.{count, is_named}
use Rattle.ra_base.specs.declared.ids.Machine.{Machine}
use Rattle.ra_base.specs.declared.ids.Process.{Process}
use Rattle.ra_model.specs.Assignments.{machine_at}
use Rattle.ra_model.specs.Members.{member_at, members_of}

-- the machine of process k of a list
unfoldable pub seat_of : List Machine → List Process → ℕ → ℕ
seat_of a processes k = machine_at a (member_at processes k)

-- the place of that machine
unfoldable pub site_of : List Machine → List Machine → List Process → ℕ → ℕ
site_of places a processes k = machine_at places (seat_of a processes k)

-- some of the processes is at place x
unfoldable pub holds_site : List Machine → List Machine → List Process → ℕ → Bool
holds_site places a processes x = is_named (length processes) (site_of places a processes) x

-- each of the processes has a machine below a size
pub record AreSeated (a : List Machine) (processes : List Process) (size : ℕ) : Type 0 where
  pub there : (k : ℕ) → k < length processes → member_at processes k < length a
  pub within : (k : ℕ) → k < length processes → seat_of a processes k < size

-- a place below a size for each machine below it
pub record ArePlacesBelow (places : List Machine) (size : ℕ) : Type 0 where
  pub one_each : length places ≡ size
  pub within : (m : ℕ) → m < size → machine_at places m < size

-- a mark for each place, all below a bound
pub record AreMarksBelow (marks : List ℕ) (size bound : ℕ) : Type 0 where
  pub one_each : length marks ≡ size
  pub below : (x : ℕ) → x < size → slice_index_or marks x 0 < bound

-- the stamp is exactly at the first n places e 0, e 1 ..
pub record AreStamped (marks : List ℕ) (size stamp n : ℕ) (e : ℕ → ℕ) : Type 0 where
  pub exactly : (x : ℕ) → x < size → (slice_index_or marks x 0 == stamp) ≡ is_named n e x

-- machine m, if it is more than once among the first n machines e 0, e 1 ..
unfoldable pub crowd_test : (ℕ → ℕ) → ℕ → ℕ → Option Machine
crowd_test e n m = if nat_lt 1 (count n (λ k. e k == m)) then Some (record { 0 = m }) else None

-- the lesser of what was found and machine m, if m counts
unfoldable pub least_with : Option Machine → Bool → Machine → Option Machine
least_with least false m = least
least_with None true m = Some m
least_with (Some l) true m = if nat_lt m.0 l.0 then Some m else Some l

-- the machine of process k, if the mark of its place isn't the stamp
unfoldable pub far_seat : List ℕ → ℕ → List Machine → List Machine → List Process → ℕ
    → Option Machine
far_seat marks stamp places a processes k =
    if slice_index_or marks (site_of places a processes k) 0 == stamp then None
    else Some (record { 0 = seat_of a processes k })

-- the stamp is set at each place that passes a test, and all other marks are as they were
pub record AreSet (old new : List ℕ) (stamp : ℕ) (test : ℕ → Bool) : Type 0 where
  pub one_each : length new ≡ length old
  pub each : (x : ℕ) → x < length old
      → slice_index_or new x 0 ≡ (if test x then stamp else slice_index_or old x 0)

-- marks of services: a mark u + 1 says that service u has a process at the place, and every place of the service that
-- was stamped last has its mark
pub record TellTrue (members : List (List Process)) (places a : List Machine) (size : ℕ)
    (marks : List ℕ) (last : ℕ) : Type 0 where
  pub one_each : length marks ≡ size
  pub sound : (x u : ℕ) → x < size → slice_index_or marks x 0 ≡ suc u
      → holds_site places a (members_of members u) x ≡ true
  pub whole : (x u : ℕ) → x < size → last ≡ suc u
      → holds_site places a (members_of members u) x ≡ true → slice_index_or marks x 0 ≡ suc u
