-- `edit`: processes are added, retired and resized.
use Rattle.std.specs.Prelude.{◌≡◌, ◌⊎◌, ℕ, List, length, Option, Some, None, IfSome, IsSome}
use Rattle.ra_base.specs.declared.causes.Cause.{Cause}
use Rattle.ra_base.specs.declared.ids.Machine.{Machine}
use Rattle.ra_edit.specs.Drafts.{Drafted, draft_of, instance_of}
use Rattle.ra_edit.specs.Replies.{after_edits, replies_to}
use Rattle.ra_edit_read.specs.declared.faults.EditsFault.{EditsFault}
use Rattle.ra_edit_read.specs.declared.faults.EditsFault.TheVariants as reader
use Rattle.ra_edit_read.specs.EditLists.{EditLists, AreEditsFor}
use Rattle.ra_edit_read.specs.EditTexts.{edits_refusal, AreEditsOf}
use Rattle.ra_io.specs.Faults.{Rose}
use Rattle.ra_model.specs.declared.raw.Tables.{Tables}
use Rattle.ra_model.specs.Assignments.{IsAssignment}
use Rattle.ra_model.specs.Broken.{first_broken}
use Rattle.ra_model.specs.Feasible.{Feasible}
use Rattle.ra_model.specs.Limits.{WellFormed}
use Rattle.ra_model_read.specs.ModelText.{model_refusal}
use Rattle.ra_model_text.specs.ModelTexts.{model_text}
use Rattle.ra_report.specs.FaultTexts.{IsInEdits}
use Rattle.ra_jobs.specs.declared.refusals.File.TheVariants as file
use Rattle.ra_jobs.specs.declared.refusals.Refusal.{Refusal}
use Rattle.ra_jobs.specs.declared.refusals.Refusal.TheVariants.{Read, Edits, Broken, Write, Memory}
use Rattle.ra_jobs.specs.declared.refusals.Role.{Role}
use Rattle.ra_jobs.specs.declared.refusals.Role.TheVariants as role
use Rattle.ra_jobs.specs.declared.status.Status.{Status}
use Rattle.ra_jobs.specs.declared.status.Status.TheVariants.{Done, BadEdits, Infeasible, NoMemory}
use Rattle.ra_jobs.specs.Comes.{Exactly, KnownTo}
use Rattle.ra_jobs.specs.Commands.{Command, OverFiles, over}
use Rattle.ra_jobs.specs.Complete.{AreValid}
use Rattle.ra_jobs.specs.Files.{Held, Faults, Names, name_of, Accepts, edit_names}
use Rattle.ra_jobs.specs.Refusals.{RoleBreaks}
use Rattle.ra_jobs.specs.EditedTexts.{edited_text}

-- what is left of an instance and two lists after all edits
unfoldable pub edited_draft : Tables → List Machine → List Machine → EditLists → Drafted
edited_draft i a0 a e = after_edits (draft_of i a0 a) e (length e.edits)

-- the text of the run of edits on a draft: the edited instance and lists, and the answer to each edit
unfoldable pub text_left : Drafted → Drafted → EditLists → List ℕ
text_left start left e =
    edited_text (instance_of left) left.initial left.current (replies_to start e (length e.edits))

unfoldable pub edits_output : Tables → List Machine → List Machine → EditLists → List ℕ
edits_output i a0 a e = text_left (draft_of i a0 a) (edited_draft i a0 a e) e

-- both lists are feasible, the edited instance is within the limits, and nothing is wrong with its text as a model
-- file; the edited current list is feasible from the edited initial list, and the text of the run of edits was sent
pub record IsRunOfEdits (i : Tables) (a0 a : List Machine) (e : EditLists) (sent : List ℕ → Type 0) :
    Type 0 where
  pub start : Feasible i a0 a0
  pub current : Feasible i a0 a
  pub limits : WellFormed (instance_of (edited_draft i a0 a e))
  pub accepted : model_refusal (model_text (instance_of (edited_draft i a0 a e))) ≡ None
  pub left :
      Feasible (instance_of (edited_draft i a0 a e)) (edited_draft i a0 a e).initial
      (edited_draft i a0 a e).current
  pub text : sent (edits_output i a0 a e)

-- the told bytes of the edits file mean these edits
abbrev pub EditsAre : Held → Names → Tables → EditLists → Type 0
EditsAre held names i e = IfSome (held (name_of names file.Edits)) (λ bytes. AreEditsOf bytes i e)

-- the model, the closed list and the lists are accepted, and the edits file means these edits of the instance
pub record IsTakenWithEdits (held : Held) (names : Names) (i : Tables) (a0 a : List Machine) (e : EditLists)
    : Type 0 where
  pub accepts : Accepts held names i a0 a
  pub initial : IsAssignment i a0
  pub current : IsAssignment i a
  pub edits : EditsAre held names i e
  pub fits : AreEditsFor i e

-- the files are accepted as `IsTaken` says, and the text of the run of these edits was sent
pub record Edited (held : Held) (names : Names) (sent : List ℕ → Type 0) : Type 0 where
  pub tables : Tables
  pub a0 : List Machine
  pub a : List Machine
  pub edits : EditLists
  pub taken : IsTakenWithEdits held names tables a0 a edits
  pub run : IsRunOfEdits tables a0 a edits sent

-- the lists were accepted, and the edits file is refused with this fault
pub record EditsRefused (held : Held) (names : Names) (fault : EditsFault) : Type 0 where
  pub tables : Tables
  pub a0 : List Machine
  pub a : List Machine
  pub accepts : Accepts held names tables a0 a
  pub named : IsSome names.edits
  pub in_file : IsInEdits fault
  pub refused :
      IfSome (held (name_of names file.Edits)) (λ bytes. edits_refusal bytes tables ≡ Some fault)

-- nothing is wrong with the edits file
pub record EditsAccepted (held : Held) (names : Names) : Type 0 where
  pub tables : Tables
  pub a0 : List Machine
  pub a : List Machine
  pub accepts : Accepts held names tables a0 a
  pub none : IfSome (held (name_of names file.Edits)) (λ bytes. edits_refusal bytes tables ≡ None)

-- its own refusals
abbrev pub EditOwn : Held → Names → Type 0 → Refusal → Type 0
EditOwn held names written (Edits fault) = EditsRefused held names fault
EditOwn held names written (Broken which cause) =
    EditsAccepted held names × RoleBreaks held names which cause
EditOwn held names written Write = written
EditOwn held names written refusal = ⊥

-- when each of its own statuses comes: all lists are accepted and the edits file is refused; or the edits file is
-- accepted too, and a list breaks a constraint
pub record EditComes (held : Held) (names : Names) (before now : Faults) (status : Status) : Type 0
  where
    pub bad_edits :
        Exactly status BadEdits (KnownTo held names before now file.Edits)
        ((fault : EditsFault) × EditsRefused held names fault)
    pub infeasible : Exactly status Infeasible (KnownTo held names before now file.Edits)
        (EditsAccepted held names
        × ((which : Role) × (cause : Cause) × RoleBreaks held names which cause))

-- its files are valid: the lists are, and nothing is wrong with the told edits file
pub record AreEditable (held : Held) (names : Names) : Type 0 where
  pub valid : AreValid held names
  pub edits : (i : Tables) (a0 a : List Machine) → Accepts held names i a0 a
      → (bytes : List ℕ) × (held (name_of names file.Edits) ≡ Some bytes)
      × (edits_refusal bytes i ≡ None)

abbrev pub editing : Names → OverFiles
editing names = record {
  names = names;
  prints = λ held sent. Edited held names sent;
  refuses = λ held took broke_off. EditOwn held names (Edited held names broke_off);
  own_comes = λ files status. EditComes files.held names files.before files.after status;
  valid = λ held. AreEditable held names;
  answers = λ status. (status ≡ Done) ⊎ (status ≡ NoMemory);
}

abbrev pub edit_command : List ℕ → List ℕ → List ℕ → List ℕ → Option (List ℕ) → Command
edit_command model initial current edits closed =
    over (editing (edit_names model initial current edits closed))

-- ---- the stages

-- a refusal of the reader of edits, as a refusal of a job
abbrev pub edits_as : EditsFault → Refusal
edits_as reader.ReadFault = Read file.Edits
edits_as reader.NoMemory = Memory
edits_as fault = Edits fault

-- why the edits file is refused
abbrev pub EditsReason : Held → List ℕ → Tables → Faults → Faults → Refusal → Type 0
EditsReason held name i before now (Read file.Edits) = Rose (before name) (now name)
EditsReason held name i before now (Edits fault) =
    IsInEdits fault × IfSome (held name) (λ bytes. edits_refusal bytes i ≡ Some fault)
EditsReason held name i before now Memory = Unit {0}
EditsReason held name i before now refusal = ⊥

-- an edits file means these edits
pub record HasEdits (held : Held) (name : List ℕ) (i : Tables) (e : EditLists) : Type 0 where
  pub edits : IfSome (held name) (λ bytes. AreEditsOf bytes i e)
  pub fits : AreEditsFor i e
