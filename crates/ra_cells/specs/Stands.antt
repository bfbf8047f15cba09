-- What cells represent.
use Rattle.std.specs.Prelude.{◌≡◌, ℕ, ◌<◌, List, slice_index}
use Rattle.ra_base.specs.declared.ids.Machine.{Machine}
use Rattle.ra_model.specs.declared.raw.Tables.{Tables}
use Rattle.ra_model.specs.Numbers.{service_count}
use Rattle.ra_model.specs.Assignments.{machine_at, IsAssignment}
use Rattle.ra_model.specs.Services.{moved_of}
use Rattle.ra_cells.specs.declared.cells.Cells.{Cells}
use Rattle.ra_cells.specs.declared.marks.Mark.TheVariants.{OnMachine, InLocation, InNeighbourhood}
use Rattle.ra_cells.specs.Labels.{AreMarks}

-- cells represent assignment a of an instance, with initial assignment a0
pub record StandFor (cells : Cells) (i : Tables) (a0 a : List Machine) : Type 0 where
  pub instance : cells.inst.now.tables ≡ i
  pub start : cells.start.now.items ≡ a0
  pub fits : IsAssignment i a
  pub on_machines : AreMarks i OnMachine a (service_count i) cells.machines.items
  pub in_locations : AreMarks i InLocation a (service_count i) cells.locations.items
  pub in_neighbourhoods : AreMarks i InNeighbourhood a (service_count i) cells.neighbourhoods.items
  pub moved : (s : ℕ) → s < service_count i
      → slice_index cells.greatest.counts s ≡ moved_of i a0 a s

-- some assignment that the cells represent has process p on machine m
pub record HavePlaced (cells : Cells) (p m : ℕ) : Type 0 where
  pub tables : Tables
  pub initial : List Machine
  pub assignment : List Machine
  pub stand : StandFor cells tables initial assignment
  pub here : machine_at assignment p ≡ m
