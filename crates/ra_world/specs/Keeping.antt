-- What is kept for an assignment, and that it is what the definitions give.
use Rattle.std.specs.Prelude.{◌≡◌, ℕ, List, None}
use Rattle.ra_base.specs.declared.ids.Machine.{Machine}
use Rattle.ra_model.specs.declared.raw.Tables.{Tables}
use Rattle.ra_model.specs.Numbers.{machine_count, process_count}
use Rattle.ra_moves.specs.declared.divisors.Divisors.{Divisors}
use Rattle.ra_model.specs.Assignments.{IsAssignment}
use Rattle.ra_model.specs.Broken.{first_broken}
use Rattle.ra_model.specs.Costs.{parts_of}
use Rattle.ra_model.specs.MachineCosts.{machine_load, machine_balance}
use Rattle.ra_topology.specs.Fits.{IsTopologyOf}
use Rattle.ra_topology.specs.TopologyLists.{TopologyLists}
use Rattle.ra_rows.specs.Rows as rows
use Rattle.ra_cells.specs.Stands as cells
use Rattle.ra_world.specs.declared.kept.Kept.{Kept}
use Rattle.ra_world.specs.Costs.{AreCosts, AreStays}
use Rattle.ra_world.specs.FilterTables.{IsRowTable}

-- rows and counters of an instance and an initial assignment represent an assignment
pub record Stand (kept : Kept) (i : Tables) (a0 a : List Machine) : Type 0 where
  pub fits : IsAssignment i a
  pub instance : kept.rows.tables ≡ i
  pub start : kept.rows.start ≡ a0
  pub rows : rows.StandFor kept.rows a
  pub cells : cells.StandFor kept.cells i a0 a

-- all that is kept is right for the kept assignment, reached from a0
pub record Keeps (kept : Kept) (i : Tables) (a0 : List Machine) : Type 0 where
  pub stand : Stand kept i a0 kept.assignment.items
  pub loads : AreCosts kept.loads.items (machine_count i) (machine_load i kept.assignment.items)
  pub balances :
      AreCosts kept.balances.items (machine_count i) (machine_balance i kept.assignment.items)
  pub filters : IsRowTable i kept.assignment.items kept.filters.items
  pub parts : kept.parts ≡ parts_of i a0 kept.assignment.items

-- a world: a0 is an assignment of an instance with this topology, and the assignment reached from it breaks nothing,
-- with all that is kept right
pub record IsWorld (i : Tables) (a0 : List Machine) (topo : TopologyLists) (list : List ℕ)
    (by : Divisors) (kept : Kept) : Type 0 where
  pub fits : IsAssignment i a0
  pub stays : AreStays i list
  pub processes : by.processes.number ≡ process_count i
  pub machines : by.machines.number ≡ machine_count i
  pub topology : IsTopologyOf topo i
  pub keeps : Keeps kept i a0
  pub unbroken : first_broken i a0 kept.assignment.items ≡ None
