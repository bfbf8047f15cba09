-- Marks of the machines on which flagged processes of a service start.
use Rattle.std.specs.Prelude.{◌≡◌, ℕ, suc, ◌<◌, Bool, true, ◌&&◌, if◌then◌else◌, ◌==◌, List, length, slice_index_or}
use Rattle.ra_base.specs.declared.ids.Machine.{Machine}
use Rattle.ra_base.specs.declared.ids.Process.{Process}
use Rattle.ra_model.specs.declared.raw.Tables.{Tables}
use Rattle.ra_model.specs.Numbers.{machine_count, service_count, process_count, service_of}
use Rattle.ra_model.specs.Assignments.{machine_at}
use Rattle.ra_model.specs.Members.{member_at}
use Rattle.ra_pins.specs.Pinned.{some_of, flagged_starts_on}
use Rattle.ra_pins.specs.PinLists.{flag_at}

-- a service that has a flagged process is touched
pub record AreTouched (i : Tables) (flags touched : List Bool) : Type 0 where
  pub one_each : length touched ≡ service_count i
  pub each : (z : ℕ) → z < process_count i → flag_at flags z ≡ true
      → flag_at touched (service_of i z) ≡ true

-- a mark s + 1 says that a flagged process of service s starts on the machine
pub record AreMarksOfFlagged (i : Tables) (a0 : List Machine) (flags : List Bool) (marks : List ℕ) : Type 0
  where
    pub one_each : length marks ≡ machine_count i
    pub each : (m s : ℕ) → m < machine_count i → slice_index_or marks m 0 ≡ suc s
        → flagged_starts_on i a0 (flag_at flags) s m ≡ true

-- each machine on which a flagged process of service s starts has the mark
pub record AreFlaggedMarked (i : Tables) (a0 : List Machine) (flags : List Bool) (s : ℕ) (marks : List ℕ)
    : Type 0 where
  pub each : (m : ℕ) → m < machine_count i
      → (slice_index_or marks m 0 == suc s) ≡ flagged_starts_on i a0 (flag_at flags) s m

-- process k of a list is flagged and starts on machine m
unfoldable pub is_seat : List Machine → List Bool → List Process → ℕ → ℕ → Bool
is_seat a0 flags processes m k =
    flag_at flags (member_at processes k) && (machine_at a0 (member_at processes k) == m)

-- each of the processes has a flag, and a machine below a size
pub record AreFlaggedAndSeated (a0 : List Machine) (flags : List Bool) (processes : List Process) (size : ℕ) :
    Type 0 where
  pub flagged : (k : ℕ) → k < length processes → member_at processes k < length flags
  pub placed : (k : ℕ) → k < length processes → member_at processes k < length a0
  pub within : (k : ℕ) → k < length processes → machine_at a0 (member_at processes k) < size

-- the stamp is set at each place m for which one of the first n passes, and all other marks are as they were
pub record IsStampSet (test : ℕ → ℕ → Bool) (n stamp : ℕ) (old new : List ℕ) : Type 0 where
  pub one_each : length new ≡ length old
  pub each : (m : ℕ) → m < length old
      → slice_index_or new m 0 ≡ (if some_of n (test m) then stamp else slice_index_or old m 0)
