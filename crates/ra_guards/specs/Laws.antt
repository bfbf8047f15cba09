-- What holds of guards and versions in every history, each law proved by a function of `ra_laws`.
use Rattle.std.specs.Prelude.{◌≡◌, ◌↔◌, ℕ, ◌≤◌, true, List, Option, None}
use Rattle.ra_base.specs.declared.ids.Guard.{Guard}
use Rattle.ra_base.specs.declared.ids.Machine.{Machine}
use Rattle.ra_model.specs.declared.raw.Tables.{Tables}
use Rattle.ra_model.specs.Limits.{WellFormed}
use Rattle.ra_moves.specs.declared.steps.Step.{Step}
use Rattle.ra_moves.specs.Moving.{IsOffered}
use Rattle.ra_moves.specs.Alike.{HeldAlike}
use Rattle.ra_guards.specs.Guards.{AreWithin, writes}
use Rattle.ra_guards.specs.Versions.{version, Untouched, ApartSince}
use Rattle.ra_guards.specs.VersionTable.{VersionTable}
use Rattle.ra_guards.specs.Kept.{version_in, AreVersions}
use Rattle.ra_guards.specs.Newest.{first_newer, first_newer_read}
use Rattle.ra_guards.specs.Made.{made_state, AreSound, MadeStand, IsRightLater}

-- what the first newer guard of a move is
pub record NewestIsRight : Type 0 where
  -- the first in a table of the versions is the first by the versions
  pub in_table :
      (i : Tables) (made : List (Option (List Step))) (n : ℕ) (steps : List Step) (v : VersionTable)
      (q : ℕ)
      → AreVersions i made n v
      → first_newer i steps (version_in v) q ≡ first_newer i steps (version i made n) q
  pub read_in_table :
      (i : Tables) (made : List (Option (List Step))) (n : ℕ) (steps : List Step) (v : VersionTable)
      (q : ℕ)
      → AreVersions i made n v
      → first_newer_read i steps (version_in v) q ≡ first_newer_read i steps (version i made n) q
  -- there is none exactly if no guard of the move was touched
  pub none : (i : Tables) (made : List (Option (List Step))) (q n : ℕ) (steps : List Step)
      → WellFormed i → AreWithin i steps
      → (first_newer i steps (version i made n) q ≡ None) ↔ Untouched i made q n steps
  -- if no write guard is newer, the first newer guard isn't a write guard
  pub held : (i : Tables) (steps : List Step) (v : Guard → ℕ) (q : ℕ)
      → ((g : Guard) → writes i steps g ≡ true → v g ≤ q)
      → first_newer i steps v q ≡ first_newer_read i steps v q

-- machines and services that aren't written keep their residents: such a machine holds the same processes, and each
-- process of such a service has the same machine
abbrev pub GuardsKeepResidents : Type 0
GuardsKeepResidents =
    (i : Tables) (a0 : List Machine) (made : List (Option (List Step))) (q n : ℕ)
    (steps : List Step)
    → q ≤ n → MadeStand i a0 made n → ApartSince i made q n steps
    → HeldAlike i steps (made_state a0 made q) (made_state a0 made n)

-- untouched guards keep the verdict: if no guard of a move was touched since it was planned at place q, it is weighed
-- at place n as it was at q
abbrev pub UntouchedIsRight : Type 0
UntouchedIsRight =
    (i : Tables) (a0 : List Machine) (made : List (Option (List Step))) (q n : ℕ)
    (steps : List Step)
    → WellFormed i → AreSound i a0 made n → MadeStand i a0 made n → q ≤ n
    → IsOffered i (made_state a0 made q) steps → Untouched i made q n steps
    → IsRightLater i a0 made q n steps
