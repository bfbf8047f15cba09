-- What holds of the versions of guards in the lock, proved by a function of `shared`.
use Rattle.std.specs.Prelude.{◌≡◌, ℕ, List, length, map, Option}
use Rattle.ra_base.specs.declared.ids.Guard.{Guard}
use Rattle.ra_model.specs.declared.raw.Tables.{Tables}
use Rattle.ra_moves.specs.declared.steps.Step.{Step}
use Rattle.ra_guards.specs.Order.{IsKnown}
use Rattle.ra_guards.specs.Versions.{version}
use Rattle.ra_turn.specs.Notes.{IsVersion}
use Rattle.ra_shared.specs.Numbers.{number_of_guard, touches_number}

-- the lock's version of a guard's number in a history is the guard's version, the greatest of its stamps; `makes` is
-- what an entry makes
abbrev pub VersionsAgree : Type 0 → Type 0
VersionsAgree N =
    (i : Tables) (makes : N → Option (List Step)) (history : List N) (g : Guard) (v : ℕ)
    → IsKnown i g
    → IsVersion (λ x. touches_number i (makes x) (number_of_guard i g)) history v
    → v ≡ version i (map makes history) (length history) g
