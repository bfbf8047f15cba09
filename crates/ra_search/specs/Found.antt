-- What a search has found.
use Rattle.std.specs.Prelude.{◌≡◌, ◌≤◌, List}
use Rattle.ra_base.specs.declared.ids.Machine.{Machine}
use Rattle.ra_descent.specs.Optimal.{NoShiftCheaper}
use Rattle.ra_model.specs.declared.raw.Tables.{Tables}
use Rattle.ra_model.specs.Assignments.{IsAssignment}
use Rattle.ra_model.specs.Costs.{objective, parts_of}
use Rattle.ra_model.specs.Feasible.{Feasible}
use Rattle.ra_model.specs.Situations.{situation}
use Rattle.ra_search.specs.declared.found.Found.{Found}

-- the best list breaks no rule, its parts are exact, it costs no more than the list from which the search began and than
-- the last one, which breaks no rule either, and no move of a single process makes it cheaper
pub record IsFound (i : Tables) (a0 from : List Machine) (found : Found) : Type 0 where
  pub fits : IsAssignment i found.best.items
  pub best : Feasible i a0 found.best.items
  pub parts : found.parts ≡ parts_of i a0 found.best.items
  pub no_dearer : objective i a0 found.best.items ≤ objective i a0 from
  pub last_fits : IsAssignment i found.last.items
  pub last : Feasible i a0 found.last.items
  pub below_last : objective i a0 found.best.items ≤ objective i a0 found.last.items
  pub optimal : NoShiftCheaper (situation i a0 found.best.items)
