-- What a run may start from.
use Rattle.std.specs.Prelude.{◌≡◌, List, None}
use Rattle.ra_base.specs.declared.costs.Parts.{Parts}
use Rattle.ra_base.specs.declared.ids.Machine.{Machine}
use Rattle.ra_model.specs.declared.raw.Tables.{Tables}
use Rattle.ra_model.specs.Assignments.{IsAssignment}
use Rattle.ra_model.specs.Broken.{first_broken}
use Rattle.ra_model.specs.Costs.{parts_of}
use Rattle.ra_topology.specs.Fits.{IsTopologyOf}
use Rattle.ra_topology.specs.TopologyLists.{TopologyLists}

-- a0 is an assignment of an instance with this topology that breaks nothing, and its cost has these parts
pub record IsFeasibleStart (i : Tables) (topo : TopologyLists) (a0 : List Machine) (costs : Parts) :
    Type 0 where
  pub fits : IsAssignment i a0
  pub topology : IsTopologyOf topo i
  pub unbroken : first_broken i a0 a0 ≡ None
  pub parts : costs ≡ parts_of i a0 a0
