-- What holds of guards and versions in every history, each law proved by a function of `guards`.
use Rattle.std.specs.Prelude.{◌≡◌, ◌↔◌, ℕ, ◌+◌, ◌<◌, List, Option, Some, None}
use Rattle.ra_base.specs.declared.ids.Guard.{Guard}
use Rattle.ra_model.specs.declared.raw.Tables.{Tables}
use Rattle.ra_model.specs.Numbers.{machine_count, service_count}
use Rattle.ra_moves.specs.declared.steps.Step.{Step}
use Rattle.ra_guards.specs.Order.{AreWrites}
use Rattle.ra_guards.specs.Versions.{made_at, Untouched, ApartSince}
use Rattle.ra_guards.specs.VersionTable.{VersionTable}
use Rattle.ra_guards.specs.Kept.{AreZero, AreVersions, IsTouched}

-- no guard of a move has a version above q exactly if the move is apart from all moves that were made from place q on
abbrev pub UntouchedIsApart : Type 0
UntouchedIsApart =
    (i : Tables) (made : List (Option (List Step))) (q n : ℕ) (steps : List Step)
    → Untouched i made q n steps ↔ ApartSince i made q n steps

-- how a table has the versions of a history, entry after entry
pub record VersionsAreKept : Type 0 where
  -- before the first entry each version is 0
  pub start : (i : Tables) (made : List (Option (List Step))) (v : VersionTable)
      → AreZero (machine_count i) (service_count i) v → AreVersions i made 0 v
  -- an entry at place n that is done gives its write guards the version n + 1
  pub done :
      (i : Tables) (made : List (Option (List Step))) (n : ℕ) (steps : List Step)
      (before after : VersionTable) (guards : List Guard)
      → AreVersions i made n before → made_at made n ≡ Some steps → AreWrites i steps guards
      → IsTouched before after guards (n + 1) → AreVersions i made (n + 1) after
  -- an entry that is refused changes nothing
  pub refused : (i : Tables) (made : List (Option (List Step))) (n : ℕ) (v : VersionTable)
      → AreVersions i made n v → made_at made n ≡ None → AreVersions i made (n + 1) v
  -- later entries change nothing
  pub front : (i : Tables) (made others : List (Option (List Step))) (n : ℕ) (v : VersionTable)
      → ((j : ℕ) → j < n → made_at made j ≡ made_at others j) → AreVersions i made n v
      → AreVersions i others n v
