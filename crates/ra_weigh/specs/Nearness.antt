-- What a step has to keep so that no dependency breaks.
use Rattle.std.specs.Prelude.{◌≡◌, ℕ, ◌<◌, List, Option, true}
use Rattle.ra_base.specs.declared.causes.Cause.{Cause}
use Rattle.ra_base.specs.declared.ids.Machine.{Machine}
use Rattle.ra_base.specs.declared.ids.Process.{Process}
use Rattle.ra_model.specs.declared.raw.Tables.{Tables}
use Rattle.ra_model.specs.Numbers.{service_count, dependency_count, need_of, neighbourhood_of}
use Rattle.ra_model.specs.Relations.{depends}
use Rattle.ra_model.specs.Broken.{far_test}
use Rattle.ra_model.specs.Members.{member_at}
use Rattle.ra_model.specs.Services.{in_neighbourhood}
use Rattle.ra_moves.specs.declared.steps.Step.{Step}
use Rattle.ra_moves.specs.Steps.{from_in, to_in}
use Rattle.ra_moves.specs.Touched.{service_in}

-- each service that service s needs has a process in a neighbourhood, given by its label
pub record FindsNeeds (i : Tables) (b : List Machine) (s label : ℕ) : Type 0 where
  pub each : (k : ℕ) → k < dependency_count i s → 0 < in_neighbourhood i b (need_of i s k) label

-- if service s has no process in a neighbourhood, no service that needs it has one there
pub record LeavesNone (i : Tables) (b : List Machine) (s label : ℕ) : Type 0 where
  pub each : in_neighbourhood i b s label ≡ 0 → (u : ℕ) → u < service_count i → depends i u s ≡ true
      → in_neighbourhood i b u label ≡ 0

-- if service s has no process in a neighbourhood, no service before service n that needs it has one there
pub record LeavesBelow (i : Tables) (b : List Machine) (s label n : ℕ) : Type 0 where
  pub each : in_neighbourhood i b s label ≡ 0 → (u : ℕ) → u < n → depends i u s ≡ true
      → in_neighbourhood i b u label ≡ 0

-- service u needs service s, which has no process in a neighbourhood where u has one
pub record LeavesAlone (i : Tables) (b : List Machine) (s label u : ℕ) : Type 0 where
  pub needs : depends i u s ≡ true
  pub none : in_neighbourhood i b s label ≡ 0
  pub some : 0 < in_neighbourhood i b u label

-- the process of each of the first n steps finds what its service needs where it goes, and leaves none alone
pub record KeepNear (i : Tables) (b : List Machine) (steps : List Step) (n : ℕ) : Type 0 where
  pub finds : (j : ℕ) → j < n
      → FindsNeeds i b (service_in i steps j) (neighbourhood_of i (to_in steps j))
  pub leaves : (j : ℕ) → j < n
      → LeavesNone i b (service_in i steps j) (neighbourhood_of i (from_in steps j))

-- a process of service t that enters a neighbourhood finds one of service u there, if t is s
pub record FindsOne (i : Tables) (b : List Machine) (s u t label : ℕ) : Type 0 where
  pub each : t ≡ s → 0 < in_neighbourhood i b u label

-- a process of service t that leaves a neighbourhood leaves another one of t there or none of s, if t is u
pub record LeavesOne (i : Tables) (b : List Machine) (s u t label : ℕ) : Type 0 where
  pub each : t ≡ u → in_neighbourhood i b u label ≡ 0 → in_neighbourhood i b s label ≡ 0

-- after the first n of a move's steps service s stays near service u: a process of s finds one of u where it goes, and
-- the last of u leaves none of s in its neighbourhood
pub record StaysNear (i : Tables) (b : List Machine) (steps : List Step) (s u n : ℕ) : Type 0 where
  pub finds : (j : ℕ) → j < n
      → FindsOne i b s u (service_in i steps j) (neighbourhood_of i (to_in steps j))
  pub leaves : (j : ℕ) → j < n
      → LeavesOne i b s u (service_in i steps j) (neighbourhood_of i (from_in steps j))

-- member x of a list of processes of service s is far from what dependency k needs
unfoldable pub far_member : Tables → List Machine → ℕ → ℕ → List Process → ℕ → Option Cause
far_member i b s k members x = far_test i b s k (member_at members x)
