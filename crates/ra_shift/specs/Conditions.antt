-- What decides whether process p, whose assignment a breaks nothing, may go from its machine to machine `to` (this
-- project's).
use Rattle.std.specs.Prelude.{◌≡◌, ◌≢◌, ℕ, ◌+◌, ◌<◌, ◌≤◌, List, Option, Some, true, IsTrue, slice_set}
use Rattle.ra_base.specs.declared.ids.Machine.{Machine}
use Rattle.ra_model.specs.declared.raw.Tables.{Tables}
use Rattle.ra_model.specs.Numbers.{resource_count, service_count, transient_at, capacity_of, spread_of, dependency_count, need_of, service_of, requirement_of, neighbourhood_of, closed_at}
use Rattle.ra_model.specs.Assignments.{machine_at}
use Rattle.ra_model.specs.Usage.{use_of, transient_of}
use Rattle.ra_model.specs.Services.{on_machine, in_neighbourhood, locations_of}
use Rattle.ra_model.specs.Relations.{depends}
use Rattle.ra_model.specs.Situations.{Situation}

-- the assignment with process p on machine `to`
abbrev pub shifted : List Machine → ℕ → ℕ → List Machine
shifted a p to = slice_set a p (record { 0 = to })

-- `to` has room for what p requires
pub record HasRoom (i : Tables) (a : List Machine) (p to : ℕ) : Type 0 where
  pub each : (r : ℕ) → r < resource_count i
      → use_of i a to r + requirement_of i p r ≤ capacity_of i to r

-- `to` has room for what p requires while p moves, unless `to` is the initial machine of p, where p is counted already
pub record HasRoomBetween (st : Situation) (p to : ℕ) : Type 0 where
  pub each : (r : ℕ) → r < resource_count st.tables → IsTrue (transient_at st.tables r)
      → machine_at st.start p ≢ to
      → transient_of st.tables st.start st.here to r + requirement_of st.tables p r
      ≤ capacity_of st.tables to r

-- each service that p's service needs is in the neighbourhood of `to`, into which p brings its own
pub record FindsOtherNeeds (i : Tables) (a : List Machine) (p to : ℕ) : Type 0 where
  pub each : (k : ℕ) → k < dependency_count i (service_of i p)
      → need_of i (service_of i p) k ≢ service_of i p
      → 0 < in_neighbourhood i a (need_of i (service_of i p) k) (neighbourhood_of i to)

-- if a neighbourhood is given, no machine in it is near all that p's service needs
pub record Lacks (st : Situation) (p : ℕ) (lacking : Option ℕ) : Type 0 where
  pub each : (label to : ℕ) → lacking ≡ Some label → neighbourhood_of st.tables to ≡ label
      → FindsOtherNeeds st.tables st.here p to → ⊥

-- p isn't the last of its service in its neighbourhood, or no other service there depends on it
pub record MayLeave (i : Tables) (a : List Machine) (p : ℕ) : Type 0 where
  pub each : (d : ℕ) → d < service_count i → depends i d (service_of i p) ≡ true
      → d ≢ service_of i p
      → in_neighbourhood i a (service_of i p) (neighbourhood_of i (machine_at a p)) ≤ 1
      → in_neighbourhood i a d (neighbourhood_of i (machine_at a p)) ≡ 0

-- no process of p's service is on machine `to`
abbrev pub IsAlone : Tables → List Machine → ℕ → ℕ → Type 0
IsAlone i a p to = on_machine i a (service_of i p) to ≡ 0

-- in how many locations p's service is after the shift, and whether these are enough
abbrev pub locations_after : Tables → List Machine → ℕ → ℕ → ℕ
locations_after i a p to = locations_of i (shifted a p to) (service_of i p)

abbrev pub KeepsSpread : Tables → List Machine → ℕ → ℕ → Type 0
KeepsSpread i a p to = spread_of i (service_of i p) ≤ locations_after i a p to

-- no service that depends on p's service is left without it
abbrev pub KeepsDependants : Tables → List Machine → ℕ → ℕ → Type 0
KeepsDependants i a p to =
    neighbourhood_of i (machine_at a p) ≢ neighbourhood_of i to → MayLeave i a p

-- machine `to` is open, or p comes home
abbrev pub IsAdmitted : Tables → List Machine → ℕ → ℕ → Type 0
IsAdmitted i a0 p to = closed_at i to ≡ true → machine_at a0 p ≡ to

-- p may go to machine `to`, which isn't its own
pub record Allows (st : Situation) (p to : ℕ) : Type 0 where
  pub apart : machine_at st.here p ≢ to
  pub room : HasRoom st.tables st.here p to
  pub between : HasRoomBetween st p to
  pub alone : IsAlone st.tables st.here p to
  pub spread : KeepsSpread st.tables st.here p to
  pub needs : FindsOtherNeeds st.tables st.here p to
  pub leaves : KeepsDependants st.tables st.here p to
  pub admitted : IsAdmitted st.tables st.start p to
