-- What the files of a job have to satisfy so that the job is done unless writing fails or memory is refused.
use Rattle.std.specs.Prelude.{◌≡◌, ℕ, List, Some, None, IsSome}
use Rattle.ra_base.specs.declared.ids.Machine.{Machine}
use Rattle.ra_io.specs.Faults.{Rose}
use Rattle.ra_model.specs.declared.raw.Tables.{Tables}
use Rattle.ra_model.specs.Feasible.{Feasible}
use Rattle.ra_model_read.specs.ModelText.{model_refusal}
use Rattle.ra_assign.specs.Lists.{assign_refusal}
use Rattle.ra_assign.specs.ClosedLists.{closed_refusal}
use Rattle.ra_jobs.specs.declared.refusals.File.{File}
use Rattle.ra_jobs.specs.Files.{Held, Faults, Names, name_of, IsNamed, ModelIs, InstanceIs, Accepts}

-- a told assignment file is accepted for an instance
abbrev pub ListAccepted : Held → List ℕ → Tables → Type 0
ListAccepted held name i =
    (bytes : List ℕ) × (held name ≡ Some bytes) × (assign_refusal bytes i ≡ None)

-- the model, the closed list and the lists of a job are told and accepted: the model file is a model, the closed list
-- is valid if one is named, and the lists that are named are assignments
pub record AreAccepted (held : Held) (names : Names) : Type 0 where
  pub model : (bytes : List ℕ) × (held names.model ≡ Some bytes) × (model_refusal bytes ≡ None)
  pub closed : (name : List ℕ) → names.closed ≡ Some name → (i : Tables)
      → ModelIs held names.model i
      → (bytes : List ℕ) × (held name ≡ Some bytes) × (closed_refusal bytes i ≡ None)
  pub initial : (name : List ℕ) → names.initial ≡ Some name → (i : Tables)
      → InstanceIs held names.model names.closed i → ListAccepted held name i
  pub changed : (name : List ℕ) → names.changed ≡ Some name → (i : Tables)
      → InstanceIs held names.model names.closed i → ListAccepted held name i

-- the files are accepted, and the lists are feasible
pub record AreValid (held : Held) (names : Names) : Type 0 where
  pub accepted : AreAccepted held names
  pub initial : IsSome names.initial → (i : Tables) (a0 a : List Machine)
      → Accepts held names i a0 a → Feasible i a0 a0
  pub changed : IsSome names.changed → (i : Tables) (a0 a : List Machine)
      → Accepts held names i a0 a → Feasible i a0 a

-- no fault of a file of the job was counted
abbrev pub NoFault : Names → Faults → Faults → Type 0
NoFault names before now =
    (f : File) → IsNamed names f → Rose (before (name_of names f)) (now (name_of names f)) → ⊥
