-- Why each stage of a job refuses.
use Rattle.std.specs.Prelude.{◌≡◌, ◌⊎◌, ℕ, List, Option, Some, None, IfSome}
use Rattle.ra_base.specs.declared.costs.Parts.{Parts}
use Rattle.ra_base.specs.declared.ids.Machine.{Machine}
use Rattle.ra_io.specs.Faults.{Rose}
use Rattle.ra_model.specs.declared.raw.Tables.{Tables}
use Rattle.ra_model.specs.Assignments.{IsAssignment}
use Rattle.ra_model.specs.Costs.{parts_of}
use Rattle.ra_model.specs.Feasible.{Feasible}
use Rattle.ra_model_read.specs.declared.faults.ModelFault.{ModelFault}
use Rattle.ra_model_read.specs.declared.faults.ModelFault.TheVariants as reader
use Rattle.ra_assign.specs.declared.faults.AssignFault.{AssignFault}
use Rattle.ra_assign.specs.declared.faults.AssignFault.TheVariants as assigner
use Rattle.ra_assign.specs.declared.faults.ClosedFault.{ClosedFault}
use Rattle.ra_assign.specs.declared.faults.ClosedFault.TheVariants as closer
use Rattle.ra_assign.specs.ClosedLists.{closed_refusal}
use Rattle.ra_report.specs.FaultTexts.{IsInClosed}
use Rattle.ra_jobs.specs.declared.refusals.File.TheVariants as file
use Rattle.ra_jobs.specs.declared.refusals.Refusal.{Refusal}
use Rattle.ra_jobs.specs.declared.refusals.Refusal.TheVariants.{Read, Model, Closed, Assign, Broken, Write, Memory}
use Rattle.ra_jobs.specs.declared.refusals.Role.{Role}
use Rattle.ra_jobs.specs.declared.refusals.Role.TheVariants as role
use Rattle.ra_jobs.specs.Files.{Held, Faults, Names, bound_names, name_of, file_of, IsNamed, CloseIs, ListIs, Accepts, Passes}
use Rattle.ra_jobs.specs.Refusals.{Reason, Nothing, ListRefused, Breaks}

-- the instance with the machines of a told closed list closed
abbrev pub IsClosing : Held → List ℕ → Tables → Tables → Type 0
IsClosing held name model i = CloseIs held (Some name) model i

-- a file means this assignment, which fits the instance
abbrev pub IsList : Held → List ℕ → Tables → List Machine → Type 0
IsList held name i a = ListIs held name i a × IsAssignment i a

-- a refusal of the model reader, as a refusal of a job
abbrev pub model_as : ModelFault → Refusal
model_as reader.ReadFault = Read file.Model
model_as reader.NoMemory = Memory
model_as fault = Model fault

-- a refusal of the reader of closed lists, as a refusal of a job
abbrev pub closed_as : ClosedFault → Refusal
closed_as closer.ReadFault = Read file.Closed
closed_as closer.NoMemory = Memory
closed_as fault = Closed fault

-- why the closed list is refused
abbrev pub ClosedReason : Held → List ℕ → Tables → Faults → Faults → Refusal → Type 0
ClosedReason held name i before now (Read file.Closed) = Rose (before name) (now name)
ClosedReason held name i before now (Closed fault) =
    IsInClosed fault × IfSome (held name) (λ bytes. closed_refusal bytes i ≡ Some fault)
ClosedReason held name i before now Memory = Unit {0}
ClosedReason held name i before now refusal = ⊥

-- why the model file is refused, or the closed list if it is named: as for a job that has no other files
abbrev pub SourceReason : Held → List ℕ → Option (List ℕ) → Faults → Faults → Refusal → Type 0
SourceReason held model closed before now =
    Reason held (bound_names model None closed) before now Nothing

-- a refusal of the reader of lists, as a refusal of a job
abbrev pub list_as : Role → AssignFault → Refusal
list_as which assigner.ReadFault = Read (file_of which)
list_as which assigner.NoMemory = Memory
list_as which fault = Assign which fault

-- why one of the two lists is refused
abbrev pub ListReason : Role → Held → List ℕ → Tables → Faults → Faults → Refusal → Type 0
ListReason which held name i before now (Read f) = (f ≡ file_of which) × Rose (before name) (now name)
ListReason which held name i before now (Assign one fault) =
    (one ≡ which) × ListRefused held name i fault
ListReason which held name i before now Memory = Unit {0}
ListReason which held name i before now refusal = ⊥

-- why the initial list is refused, if one is named
abbrev pub NamedReason : Held → Names → Tables → Faults → Faults → Refusal → Type 0
NamedReason held names i before now refusal =
    IsNamed names file.Initial
    × ListReason role.Initial held (name_of names file.Initial) i before now refusal

-- writing failed, and then `written` holds; or memory was refused
abbrev pub WriteReason : Type 0 → Refusal → Type 0
WriteReason written Write = written
WriteReason written Memory = Unit {0}
WriteReason written refusal = ⊥

-- why one of the two lists is refused, in turn; `written` holds if writing the result failed
abbrev pub JudgeReason : Tables → List Machine → List Machine → Type 0 → Refusal → Type 0
JudgeReason i a0 a written (Broken which cause) = Breaks i a0 a which cause
JudgeReason i a0 a written refusal = WriteReason written refusal

-- why the initial list alone is refused
abbrev pub StartReason : Tables → List Machine → Type 0 → Refusal → Type 0
StartReason i a0 written (Broken role.Initial cause) = Breaks i a0 a0 role.Initial cause
StartReason i a0 written (Broken role.Changed cause) = ⊥
StartReason i a0 written refusal = WriteReason written refusal

-- all files were accepted, and the initial list fits the instance
pub record IsAcceptedStart (held : Held) (names : Names) (i : Tables) (a0 : List Machine) : Type 0 where
  pub accepts : Accepts held names i a0 a0
  pub fits : IsAssignment i a0

-- the two lists were read
pub record ReadsLists (held : Held) (names : Names) (i : Tables) (a0 a : List Machine) : Type 0 where
  pub initial : IsList held (name_of names file.Initial) i a0
  pub changed : IsList held (name_of names file.Changed) i a

-- the initial list is refused; or it was read, and the new one is refused
abbrev pub ListsReason : Held → Names → Tables → Faults → Faults → Refusal → Type 0
ListsReason held names i before now refusal =
    ListReason role.Initial held (name_of names file.Initial) i before now refusal
    ⊎ ((a0 : List Machine) × ListIs held (name_of names file.Initial) i a0
    × ListReason role.Changed held (name_of names file.Changed) i before now refusal)

-- all files passed, and these are the parts of the new list
pub record Passed (held : Held) (names : Names) (parts : Parts) : Type 0 where
  pub tables : Tables
  pub a0 : List Machine
  pub a : List Machine
  pub passes : Passes held names tables a0 a
  pub parts_are : parts ≡ parts_of tables a0 a

-- both lists are feasible, and these are the parts of the new one
pub record Judged (i : Tables) (a0 a : List Machine) (parts : Parts) : Type 0 where
  pub initial : Feasible i a0 a0
  pub changed : Feasible i a0 a
  pub parts_are : parts ≡ parts_of i a0 a
