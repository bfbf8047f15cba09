-- What the refusals of the reader say of the bytes: a failed fetch and refused memory say nothing, and every other
-- refusal is the one of the bytes.
use Rattle.std.specs.Prelude.{◌≡◌, ℕ, List, Option, Some}
use Rattle.ra_model.specs.declared.raw.Tables.{Tables}
use Rattle.ra_edit_read.specs.declared.faults.EditsFault.{EditsFault}
use Rattle.ra_edit_read.specs.declared.faults.EditsFault.TheVariants as edits
use Rattle.ra_edit_read.specs.EditTexts.{edits_refusal}

-- the refusal is what was found wrong
abbrev pub EditsSays : Option EditsFault → EditsFault → Type 0
EditsSays found edits.ReadFault = Unit {0}
EditsSays found edits.NoMemory = Unit {0}
EditsSays found fault = found ≡ Some fault

abbrev pub IsEditsRefusal : List ℕ → Tables → EditsFault → Type 0
IsEditsRefusal bytes i fault = EditsSays (edits_refusal bytes i) fault
