-- Why a job is refused: the reason of each refusal.
use Rattle.std.specs.Prelude.{◌≡◌, ℕ, List, Option, Some, IsSome, IfSome}
use Rattle.ra_base.specs.declared.causes.Cause.{Cause}
use Rattle.ra_base.specs.declared.ids.Machine.{Machine}
use Rattle.ra_io.specs.Faults.{Rose}
use Rattle.ra_model.specs.declared.raw.Tables.{Tables}
use Rattle.ra_model.specs.Broken.{first_broken}
use Rattle.ra_model.specs.Feasible.{Feasible}
use Rattle.ra_model_read.specs.declared.faults.ModelFault.{ModelFault}
use Rattle.ra_model_read.specs.ModelText.{model_refusal}
use Rattle.ra_assign.specs.declared.faults.AssignFault.{AssignFault}
use Rattle.ra_assign.specs.declared.faults.ClosedFault.{ClosedFault}
use Rattle.ra_assign.specs.Lists.{assign_refusal}
use Rattle.ra_assign.specs.ClosedLists.{closed_refusal}
use Rattle.ra_report.specs.FaultTexts.{IsInModel, IsInClosed, IsInList, IsInEdits}
use Rattle.ra_jobs.specs.declared.refusals.File.{File}
use Rattle.ra_jobs.specs.declared.refusals.File.TheVariants as file
use Rattle.ra_jobs.specs.declared.refusals.Refusal.{Refusal}
use Rattle.ra_jobs.specs.declared.refusals.Refusal.TheVariants.{Read, Model, Closed, Assign, Edits, Broken, Unrepaired, Write, Memory}
use Rattle.ra_jobs.specs.declared.refusals.Role.{Role}
use Rattle.ra_jobs.specs.declared.refusals.Role.TheVariants as role
use Rattle.ra_jobs.specs.Files.{Held, Faults, Names, name_of, file_of, IsNamed, ModelIs, InstanceIs, NamedListIs, Accepts, Passes}

-- what was done before a file of the job is read: the model, then the closed list, then the initial list, then the new
-- or current one, then the edits; a report is read after the initial list is known to be feasible
abbrev pub ReadBefore : Held → Names → File → Type 0
ReadBefore held names file.Model = Unit {0}
ReadBefore held names file.Closed = (i : Tables) × ModelIs held names.model i
ReadBefore held names file.Initial = (i : Tables) × InstanceIs held names.model names.closed i
ReadBefore held names file.Changed =
    (i : Tables) × (a0 : List Machine) × InstanceIs held names.model names.closed i
    × NamedListIs held names.initial i a0
ReadBefore held names file.Report = (i : Tables) × (a0 : List Machine) × Passes held names i a0 a0
ReadBefore held names file.Edits =
    (i : Tables) × (a0 : List Machine) × (a : List Machine) × Accepts held names i a0 a

-- all files before it were read, reading the file failed, and its count of faults rose
pub record FileReadFailed (held : Held) (names : Names) (before now : Faults) (f : File) : Type 0 where
  pub earlier : ReadBefore held names f
  pub named : IsNamed names f
  pub rose : Rose (before (name_of names f)) (now (name_of names f))

-- the model file is refused with this fault
pub record ModelRefused (held : Held) (name : List ℕ) (fault : ModelFault) : Type 0 where
  pub in_file : IsInModel fault
  pub refused : IfSome (held name) (λ bytes. model_refusal bytes ≡ Some fault)

-- a list is refused with this fault
pub record ListRefused (held : Held) (name : List ℕ) (i : Tables) (fault : AssignFault) : Type 0
  where
    pub in_file : IsInList fault
    pub refused : IfSome (held name) (λ bytes. assign_refusal bytes i ≡ Some fault)

-- the closed list is refused with this fault, for the instance of the model file
pub record ClosedRefused (held : Held) (model_name : List ℕ) (closed_name : Option (List ℕ))
    (fault : ClosedFault) : Type 0 where
  pub model : Tables
  pub read : ModelIs held model_name model
  pub name : List ℕ
  pub named : closed_name ≡ Some name
  pub in_file : IsInClosed fault
  pub refused : IfSome (held name) (λ bytes. closed_refusal bytes model ≡ Some fault)

-- the instance was read, and so was the initial list before the new one; then the list of this role is refused with
-- this fault
pub record RoleRefused (held : Held) (names : Names) (which : Role) (fault : AssignFault) : Type 0
  where
    pub tables : Tables
    pub a0 : List Machine
    pub instance : InstanceIs held names.model names.closed tables
    pub earlier : which ≡ role.Changed → NamedListIs held names.initial tables a0
    pub named : IsNamed names (file_of which)
    pub refused : ListRefused held (name_of names (file_of which)) tables fault

-- the initial list breaks this constraint first; or the initial list is feasible, and the new one breaks this
-- constraint first
abbrev pub Breaks : Tables → List Machine → List Machine → Role → Cause → Type 0
Breaks i a0 a role.Initial cause = first_broken i a0 a0 ≡ Some cause
Breaks i a0 a role.Changed cause = Feasible i a0 a0 × (first_broken i a0 a ≡ Some cause)

-- all files were accepted, and the list of this role breaks this constraint first
pub record RoleBreaks (held : Held) (names : Names) (which : Role) (cause : Cause) : Type 0 where
  pub tables : Tables
  pub a0 : List Machine
  pub a : List Machine
  pub start_named : IsSome names.initial
  pub named : IsNamed names (file_of which)
  pub accepts : Accepts held names tables a0 a
  pub breaks : Breaks tables a0 a which cause

-- the reason of each refusal: what holds of the files of a job, whose counts of faults went from `before` to `now`.
-- `own` has the job's own reasons: those of its refusals other than of the model, of the closed list, of the lists and
-- of memory
abbrev pub Reason : Held → Names → Faults → Faults → (Refusal → Type 0) → Refusal → Type 0
Reason held names before now own (Read f) = FileReadFailed held names before now f
Reason held names before now own (Model fault) = ModelRefused held names.model fault
Reason held names before now own (Closed fault) = ClosedRefused held names.model names.closed fault
Reason held names before now own (Assign which fault) = RoleRefused held names which fault
Reason held names before now own Memory = Unit {0}
Reason held names before now own refusal = own refusal

-- the own refusals of a job whose lists have to be feasible; `written` holds if writing its output failed
abbrev pub Judges : Held → Names → Type 0 → Refusal → Type 0
Judges held names written (Broken which cause) = RoleBreaks held names which cause
Judges held names written Write = written
Judges held names written refusal = ⊥

-- the own refusals of a job that asks no list to be feasible
abbrev pub OnlyWrites : Type 0 → Refusal → Type 0
OnlyWrites written Write = written
OnlyWrites written refusal = ⊥

-- the own refusals before any list is judged: there are none
abbrev pub Nothing : Refusal → Type 0
Nothing refusal = ⊥

-- a refusal can be told: its file is named, and the fault that a reader found is in the file
abbrev pub CanTell : Names → Refusal → Type 0
CanTell names (Read f) = IsNamed names f
CanTell names (Model fault) = IsInModel fault
CanTell names (Closed fault) = IsSome names.closed × IsInClosed fault
CanTell names (Assign which fault) = IsNamed names (file_of which) × IsInList fault
CanTell names (Edits fault) = IsSome names.edits × IsInEdits fault
CanTell names (Broken which cause) = IsNamed names (file_of which)
CanTell names (Unrepaired cause) = IsSome names.initial
CanTell names refusal = Unit {0}
