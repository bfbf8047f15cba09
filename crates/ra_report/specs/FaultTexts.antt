-- The lines on the error sink.
use Rattle.std.specs.Prelude.{◌≢◌, ℕ, List, [], ◌∷◌, codes}
use Rattle.ra_base.specs.declared.causes.Cause.{Cause}
use Rattle.ra_assign.specs.declared.faults.AssignFault.{AssignFault}
use Rattle.ra_assign.specs.declared.faults.AssignFault.TheVariants as assign
use Rattle.ra_assign.specs.declared.faults.ClosedFault.{ClosedFault}
use Rattle.ra_assign.specs.declared.faults.ClosedFault.TheVariants as closed
use Rattle.ra_edit_read.specs.declared.faults.EditsFault.{EditsFault}
use Rattle.ra_edit_read.specs.declared.faults.EditsFault.TheVariants as edits
use Rattle.ra_model_read.specs.declared.faults.Field.{Field}
use Rattle.ra_model_read.specs.declared.faults.Field.TheVariants as field
use Rattle.ra_model_read.specs.declared.faults.ModelFault.{ModelFault}
use Rattle.ra_model_read.specs.declared.faults.ModelFault.TheVariants as model
use Rattle.ra_report.specs.declared.faults.Fault.{Fault}
use Rattle.ra_report.specs.declared.faults.FaultLine.{FaultLine}
use Rattle.ra_report.specs.declared.faults.Fault.TheVariants.{Usage, Read, Model, Closed, Assign, Edits, Infeasible, Unrepaired, Wrong, Write, Memory}
use Rattle.ra_report.specs.Notes.{note_text}
use Rattle.ra_report.specs.Pieces.{joined}
use Rattle.ra_report.specs.Texts.{space, line_end, number_text, cause_text}

-- the printed name of a field of a model file
unfoldable pub field_text : Field → List ℕ
field_text field.ResourceCount = codes "resource count"
field_text field.Transient = codes "transient flag"
field_text field.LoadWeight = codes "load weight"
field_text field.MachineCount = codes "machine count"
field_text field.Neighbourhood = codes "neighbourhood"
field_text field.Location = codes "location"
field_text field.Capacity = codes "capacity"
field_text field.Safety = codes "safety capacity"
field_text field.MoveCost = codes "machine move cost"
field_text field.ServiceCount = codes "service count"
field_text field.SpreadMin = codes "spread"
field_text field.DependencyCount = codes "dependency count"
field_text field.Dependency = codes "dependency"
field_text field.ProcessCount = codes "process count"
field_text field.ProcessService = codes "service"
field_text field.Requirement = codes "requirement"
field_text field.ProcessCost = codes "process move cost"
field_text field.BalanceCount = codes "balance count"
field_text field.BalanceFirst = codes "first resource"
field_text field.BalanceSecond = codes "second resource"
field_text field.BalanceTarget = codes "target"
field_text field.BalanceWeight = codes "balance weight"
field_text field.ProcessWeight = codes "process move weight"
field_text field.ServiceWeight = codes "service move weight"
field_text field.MachineWeight = codes "machine move weight"

-- a byte that is neither a digit nor a blank; a number that is too large; a number too many
abbrev pub bad_byte : ℕ → ℕ → List ℕ
bad_byte at byte =
    joined (codes "bad byte " ∷ number_text byte ∷ codes " at " ∷ number_text at ∷ [])

abbrev pub too_large : ℕ → List ℕ
too_large at = joined (codes "number too large at " ∷ number_text at ∷ [])

abbrev pub extra : ℕ → List ℕ
extra at = joined (codes "extra at " ∷ number_text at ∷ [])

-- what is wrong with a model file; a failed fetch and refused memory have lines of their own
unfoldable pub model_detail : ModelFault → List ℕ
model_detail model.ReadFault = []
model_detail (model.BadByte at byte) = bad_byte at byte
model_detail (model.TooLarge at) = too_large at
model_detail model.TooLong = joined (codes "file too long" ∷ [])
model_detail (model.Missing what item) =
    joined (codes "missing " ∷ field_text what ∷ space ∷ number_text item ∷ [])
model_detail (model.Range what at value least most) =
    joined
    (codes "range " ∷ field_text what ∷ codes " at " ∷ number_text at ∷ codes ": "
    ∷ number_text value ∷ codes " not in " ∷ number_text least ∷ codes " to " ∷ number_text most
    ∷ [])
model_detail (model.Flag at value) =
    joined (codes "flag at " ∷ number_text at ∷ codes ": " ∷ number_text value ∷ [])
model_detail (model.Extra at) = extra at
model_detail model.NoMemory = []

-- what is wrong with an assignment file
unfoldable pub assign_detail : AssignFault → List ℕ
assign_detail assign.ReadFault = []
assign_detail (assign.BadByte at byte) = bad_byte at byte
assign_detail (assign.TooLarge at) = too_large at
assign_detail assign.TooLong = joined (codes "file too long" ∷ [])
assign_detail (assign.Missing process) =
    joined (codes "missing process " ∷ number_text process.0 ∷ [])
assign_detail (assign.NoMachine process value) =
    joined
    (codes "no machine for process " ∷ number_text process.0 ∷ codes ", value "
    ∷ number_text value ∷ [])
assign_detail (assign.Extra at) = extra at
assign_detail assign.NoMemory = []

-- what is wrong with a closed list
unfoldable pub closed_detail : ClosedFault → List ℕ
closed_detail closed.ReadFault = []
closed_detail (closed.BadByte at byte) = bad_byte at byte
closed_detail (closed.TooLarge at) = too_large at
closed_detail closed.TooLong = joined (codes "file too long" ∷ [])
closed_detail (closed.NoMachine at value) =
    joined (codes "no machine at " ∷ number_text at ∷ codes ", value " ∷ number_text value ∷ [])
closed_detail closed.NoMemory = []

-- what is wrong with a file of edits
unfoldable pub edits_detail : EditsFault → List ℕ
edits_detail edits.ReadFault = []
edits_detail (edits.BadByte at byte) = bad_byte at byte
edits_detail (edits.TooLarge at) = too_large at
edits_detail edits.TooLong = joined (codes "file too long" ∷ [])
edits_detail (edits.Missing edit) = joined (codes "missing edit " ∷ number_text edit ∷ [])
edits_detail (edits.Range at value least most) =
    joined
    (codes "range at " ∷ number_text at ∷ codes ": " ∷ number_text value ∷ codes " not in "
    ∷ number_text least ∷ codes " to " ∷ number_text most ∷ [])
edits_detail (edits.TooMany at) = joined (codes "too many edits at " ∷ number_text at ∷ [])
edits_detail edits.NoMemory = []

abbrev pub usage_line : List ℕ
usage_line =
    codes
    "usage: reassign check MODEL INITIAL NEW [--closed FILE] | bound MODEL [INITIAL [--closed FILE]] | solve MODEL INITIAL [--slack N] [--closed FILE] [--draws 1|2] LOT ... | trial N | verify MODEL INITIAL REPORT [--slack N] [--closed FILE] [--draws 1|2] LOT ... | repair MODEL INITIAL [--closed FILE] LOT | edit MODEL INITIAL CURRENT EDITS [--closed FILE]"

-- a line: some words, what is wrong, and the end of the line
abbrev pub line_of : List ℕ → List ℕ → List ℕ
line_of words detail = joined (words ∷ detail ∷ line_end ∷ [])

-- a line about a file: some words, its name, and what is wrong with it
abbrev pub about : List ℕ → List ℕ → List ℕ → List ℕ
about words name detail = joined (words ∷ name ∷ codes ": " ∷ detail ∷ line_end ∷ [])

-- what is told of a fault: its words, its name and the text after it, its note, and the end of the line
abbrev pub line_said : FaultLine → List ℕ
line_said line =
    joined (line.words.now ∷ line.name.now ∷ line.behind.now ∷ note_text line.note ∷ line_end ∷ [])

abbrev pub read_fault_line : List ℕ → List ℕ
read_fault_line name = joined (codes "read fault: " ∷ name ∷ line_end ∷ [])

abbrev pub model_line : ModelFault → List ℕ
model_line fault = line_of (codes "bad model: ") (model_detail fault)

abbrev pub closed_line : List ℕ → ClosedFault → List ℕ
closed_line name fault = about (codes "bad closed list: ") name (closed_detail fault)

abbrev pub assign_line : List ℕ → AssignFault → List ℕ
assign_line name fault = about (codes "bad assignment: ") name (assign_detail fault)

abbrev pub edits_line : List ℕ → EditsFault → List ℕ
edits_line name fault = about (codes "bad edits: ") name (edits_detail fault)

abbrev pub infeasible_line : List ℕ → Cause → List ℕ
infeasible_line name cause = about (codes "infeasible: ") name (cause_text cause)

abbrev pub wrong_line : ℕ → List ℕ
wrong_line line = joined (codes "wrong line " ∷ number_text line ∷ line_end ∷ [])

abbrev pub unrepaired_line : List ℕ → Cause → List ℕ
unrepaired_line name cause = about (codes "unrepaired: ") name (cause_text cause)

abbrev pub write_fault_line : List ℕ
write_fault_line = joined (codes "write fault" ∷ line_end ∷ [])

abbrev pub memory_line : List ℕ
memory_line = joined (codes "no memory" ∷ line_end ∷ [])

-- the line of a fault
unfoldable pub fault_text : Fault → List ℕ
fault_text Usage = joined (usage_line ∷ line_end ∷ [])
fault_text (Read name) = read_fault_line name.now
fault_text (Model fault) = model_line fault
fault_text (Closed name fault) = closed_line name.now fault
fault_text (Assign name fault) = assign_line name.now fault
fault_text (Edits name fault) = edits_line name.now fault
fault_text (Infeasible name cause) = infeasible_line name.now cause
fault_text (Wrong line) = wrong_line line
fault_text (Unrepaired name cause) = unrepaired_line name.now cause
fault_text Write = write_fault_line
fault_text Memory = memory_line

-- the fault that a reader found is in the file, and has a detail: a failed fetch and refused memory have lines of their
-- own
abbrev pub IsInModel : ModelFault → Type 0
IsInModel fault = (fault ≢ model.ReadFault) × (fault ≢ model.NoMemory)

abbrev pub IsInClosed : ClosedFault → Type 0
IsInClosed fault = (fault ≢ closed.ReadFault) × (fault ≢ closed.NoMemory)

abbrev pub IsInList : AssignFault → Type 0
IsInList fault = (fault ≢ assign.ReadFault) × (fault ≢ assign.NoMemory)

abbrev pub IsInEdits : EditsFault → Type 0
IsInEdits fault = (fault ≢ edits.ReadFault) × (fault ≢ edits.NoMemory)

-- a fault can be told: if a reader refused a file, the fault is in the file
abbrev pub CanBeTold : Fault → Type 0
CanBeTold (Model fault) = IsInModel fault
CanBeTold (Closed name fault) = IsInClosed fault
CanBeTold (Assign name fault) = IsInList fault
CanBeTold (Edits name fault) = IsInEdits fault
CanBeTold Usage = Unit {0}
CanBeTold (Read name) = Unit {0}
CanBeTold (Infeasible name cause) = Unit {0}
CanBeTold (Wrong line) = Unit {0}
CanBeTold (Unrepaired name cause) = Unit {0}
CanBeTold Write = Unit {0}
CanBeTold Memory = Unit {0}
