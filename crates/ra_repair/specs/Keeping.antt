-- What is kept for an assignment, and that it is what the definitions give.
use Rattle.std.specs.Prelude.{◌≡◌, ℕ, ◌≤◌, List, [], slice_set}
use Rattle.ra_base.specs.Listed.{Listed}
use Rattle.ra_base.specs.declared.ids.Machine.{Machine}
use Rattle.ra_draws.specs.declared.sources.Lot.{Lot}
use Rattle.ra_draws.specs.Lots.{IsFitting}
use Rattle.ra_model.specs.declared.raw.Tables.{Tables}
use Rattle.ra_model.specs.Assignments.{IsAssignment}
use Rattle.ra_rows.specs.Rows as rows
use Rattle.ra_cells.specs.Stands as cells
use Rattle.ra_repair.specs.declared.kept.Kept.{Kept}
use Rattle.ra_repair.specs.declared.tries.Try.{Try}
use Rattle.ra_repair.specs.Penalty.{penalty}

-- rows and counters of an instance and an initial assignment represent the kept assignment
pub record StandsForKept (kept : Kept) (i : Tables) (a0 : List Machine) : Type 0 where
  pub fits : IsAssignment i kept.assignment.items
  pub tables : kept.rows.tables ≡ i
  pub start : kept.rows.start ≡ a0
  pub rows : rows.StandFor kept.rows kept.assignment.items
  pub cells : cells.StandFor kept.cells i a0 kept.assignment.items

-- the kept assignment, but with one process on this machine
abbrev pub list_with : Kept → ℕ → Machine → List Machine
list_with kept p m = slice_set kept.assignment.items p m

-- all that is kept is right, and the kept penalty is that of the kept assignment, reached from a0
pub record KeepsPenalty (kept : Kept) (i : Tables) (a0 : List Machine) : Type 0 where
  pub stands : StandsForKept kept i a0
  pub penalty_is : kept.penalty ≡ penalty i a0 kept.assignment.items

-- a lot may be used, no try was made for it yet, and there is room for as many as its budget
pub record AreToCome (lot : Lot) (tries : Listed Try) : Type 0 where
  pub fitting : IsFitting lot
  pub none : tries.items ≡ []
  pub room : lot.budget ≤ tries.room
