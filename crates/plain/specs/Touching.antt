-- One entry and the guards of a move.
use Rattle.std.specs.Prelude.{◌≡◌, List, Option, Some}
use Rattle.ra_model.specs.declared.raw.Tables.{Tables}
use Rattle.ra_moves.specs.declared.steps.Step.{Step}
use Rattle.ra_guards.specs.Versions.{Apart}

-- what an entry makes, if anything, writes no guard of the steps
abbrev pub IsApartFrom : Tables → List Step → Option (List Step) → Type 0
IsApartFrom i steps made = (others : List Step) → made ≡ Some others → Apart i steps others
