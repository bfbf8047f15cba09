-- When each status comes. Its cause is the reason of a refusal.
use Rattle.std.specs.Prelude.{◌≡◌, ◌≢◌, ◌⊎◌, true, IsSome}
use Rattle.ra_base.specs.declared.causes.Cause.{Cause}
use Rattle.ra_io.specs.Faults.{Rose}
use Rattle.ra_model_read.specs.declared.faults.ModelFault.{ModelFault}
use Rattle.ra_assign.specs.declared.faults.AssignFault.{AssignFault}
use Rattle.ra_assign.specs.declared.faults.ClosedFault.{ClosedFault}
use Rattle.ra_jobs.specs.declared.refusals.File.{File}
use Rattle.ra_jobs.specs.declared.refusals.File.TheVariants as file
use Rattle.ra_jobs.specs.declared.refusals.Refusal.{Refusal}
use Rattle.ra_jobs.specs.declared.refusals.Refusal.TheVariants.{Write}
use Rattle.ra_jobs.specs.declared.refusals.Role.{Role}
use Rattle.ra_jobs.specs.declared.status.Status.{Status}
use Rattle.ra_jobs.specs.declared.status.Status.TheVariants.{Done, ReadFault, BadModel, BadAssignment, Infeasible, WriteFault, NoMemory, BadClosed, Unrepaired}
use Rattle.ra_jobs.specs.Files.{Held, Faults, Names, name_of, file_of, is_up_to, IsNamed}
use Rattle.ra_jobs.specs.Refusals.{FileReadFailed, ModelRefused, ClosedRefused, RoleRefused, RoleBreaks}

-- if a job has this file, its bytes are told, and no fault of it was counted
abbrev pub IsKnownFile : Held → Names → Faults → Faults → File → Type 0
IsKnownFile held names before now f =
    IsNamed names f
    → IsSome (held (name_of names f))
    × (Rose (before (name_of names f)) (now (name_of names f)) → ⊥)

-- this holds of all files that are read up to this one
abbrev pub KnownTo : Held → Names → Faults → Faults → File → Type 0
KnownTo held names before now last =
    (f : File) → is_up_to f last ≡ true → IsKnownFile held names before now f

-- a status comes only if its cause holds; and if its cause holds and the files are known, no other status comes except
-- that of refused memory
pub record Exactly (status this : Status) (known cause : Type 0) : Type 0 where
  pub only : status ≡ this → cause
  pub always : known → cause → (status ≡ this) ⊎ (status ≡ NoMemory)

-- the model file is refused
abbrev pub BadModelComes : Held → Names → Faults → Faults → Status → Type 0
BadModelComes held names before now status =
    Exactly status BadModel (KnownTo held names before now file.Model)
    ((fault : ModelFault) × ModelRefused held names.model fault)

-- the model file is accepted, and the closed list is refused
abbrev pub BadClosedComes : Held → Names → Faults → Faults → Status → Type 0
BadClosedComes held names before now status =
    Exactly status BadClosed (KnownTo held names before now file.Closed)
    ((fault : ClosedFault) × ClosedRefused held names.model names.closed fault)

-- the instance was read, and the initial list is refused; or the initial list was read too, and the new list is refused
pub record BadAssignmentComes (held : Held) (names : Names) (before now : Faults) (status : Status)
    : Type 0 where
  pub only : status ≡ BadAssignment
      → (which : Role) × (fault : AssignFault) × RoleRefused held names which fault
  pub always : (which : Role) → KnownTo held names before now (file_of which)
      → ((fault : AssignFault) × RoleRefused held names which fault)
      → (status ≡ BadAssignment) ⊎ (status ≡ NoMemory)

-- each status that any refused job may have, and when it comes. The status of refused memory may come at any time, but
-- then nothing was written
pub record Comes (held : Held) (names : Names) (before now : Faults) (own : Refusal → Type 0)
    (out_same : Type 0) (status : Status) : Type 0 where
  pub read_fault : status ≡ ReadFault → (f : File) × FileReadFailed held names before now f
  pub bad_model : BadModelComes held names before now status
  pub bad_closed : BadClosedComes held names before now status
  pub bad_assignment : BadAssignmentComes held names before now status
  pub write_fault : status ≡ WriteFault → own Write
  pub no_output : status ≢ Done → status ≢ WriteFault → status ≢ Unrepaired → out_same

-- for a job whose lists have to be feasible: all files before the report are accepted, and the initial list breaks a
-- constraint; or the initial list is feasible, and the new one breaks one
abbrev pub InfeasibleComes : Held → Names → Faults → Faults → Status → Type 0
InfeasibleComes held names before now status =
    Exactly status Infeasible (KnownTo held names before now file.Edits)
    ((which : Role) × (cause : Cause) × RoleBreaks held names which cause)
