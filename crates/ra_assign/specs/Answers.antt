-- What the refusals of the readers say of the bytes: a failed fetch and refused memory say nothing, and every other
-- refusal is the one of the bytes.
use Rattle.std.specs.Prelude.{◌≡◌, ℕ, List, Option, Some}
use Rattle.ra_model.specs.declared.raw.Tables.{Tables}
use Rattle.ra_assign.specs.declared.faults.AssignFault.{AssignFault}
use Rattle.ra_assign.specs.declared.faults.AssignFault.TheVariants as assign
use Rattle.ra_assign.specs.declared.faults.ClosedFault.{ClosedFault}
use Rattle.ra_assign.specs.declared.faults.ClosedFault.TheVariants as closed
use Rattle.ra_assign.specs.Lists.{assign_refusal}
use Rattle.ra_assign.specs.ClosedLists.{closed_refusal}

-- the refusal is what was found wrong
abbrev pub AssignSays : Option AssignFault → AssignFault → Type 0
AssignSays found assign.ReadFault = Unit {0}
AssignSays found assign.NoMemory = Unit {0}
AssignSays found fault = found ≡ Some fault

abbrev pub IsAssignRefusal : List ℕ → Tables → AssignFault → Type 0
IsAssignRefusal bytes i fault = AssignSays (assign_refusal bytes i) fault

abbrev pub ClosedSays : Option ClosedFault → ClosedFault → Type 0
ClosedSays found closed.ReadFault = Unit {0}
ClosedSays found closed.NoMemory = Unit {0}
ClosedSays found fault = found ≡ Some fault

abbrev pub IsClosedRefusal : List ℕ → Tables → ClosedFault → Type 0
IsClosedRefusal bytes i fault = ClosedSays (closed_refusal bytes i) fault
