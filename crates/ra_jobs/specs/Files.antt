-- The files of a job, and what they mean.
use Rattle.std.specs.Prelude.{◌≡◌, ℕ, nat_le, List, [], Bool, true, Option, Some, None, IsSome, IfSome, unwrap_or}
use Rattle.std.specs.Option.{option_copied}
use Rattle.ra_base.specs.Listed.{Listed}
use Rattle.ra_base.specs.declared.ids.Machine.{Machine}
use Rattle.ra_model.specs.declared.raw.Tables.{Tables}
use Rattle.ra_model.specs.Feasible.{Feasible}
use Rattle.ra_model.specs.Numbers.{with_closed}
use Rattle.ra_model_read.specs.ModelText.{IsModel}
use Rattle.ra_assign.specs.Lists.{IsAssignmentOf}
use Rattle.ra_assign.specs.ClosedLists.{IsClosedOf}
use Rattle.ra_jobs.specs.declared.refusals.JobFiles.{JobFiles}
use Rattle.ra_jobs.specs.declared.refusals.File.{File}
use Rattle.ra_jobs.specs.declared.refusals.File.TheVariants as file
use Rattle.ra_jobs.specs.declared.refusals.Role.{Role}
use Rattle.ra_jobs.specs.declared.refusals.Role.TheVariants as role

-- the names of the files of a job; a file that the job doesn't have has no name. The list `changed` is the new one of a
-- check, and the current one of edits
pub record Names : Type 0 where
  pub model : List ℕ
  pub closed : Option (List ℕ)
  pub initial : Option (List ℕ)
  pub changed : Option (List ℕ)
  pub report : Option (List ℕ)
  pub edits : Option (List ℕ)

-- the files of `bound`, of `solve` and `repair`, of `check`, of `verify` and of `edit`
abbrev pub bound_names : List ℕ → Option (List ℕ) → Option (List ℕ) → Names
bound_names model initial closed =
    record {
      model = model;
      closed = closed;
      initial = initial;
      changed = None;
      report = None;
      edits = None;
    }

abbrev pub solve_names : List ℕ → List ℕ → Option (List ℕ) → Names
solve_names model initial closed = bound_names model (Some initial) closed

abbrev pub check_names : List ℕ → List ℕ → List ℕ → Option (List ℕ) → Names
check_names model initial changed closed =
    record (solve_names model initial closed) { changed = Some changed }

abbrev pub verify_names : List ℕ → List ℕ → List ℕ → Option (List ℕ) → Names
verify_names model initial report closed =
    record (solve_names model initial closed) { report = Some report }

abbrev pub edit_names : List ℕ → List ℕ → List ℕ → List ℕ → Option (List ℕ) → Names
edit_names model initial current edits closed =
    record (check_names model initial current closed) { edits = Some edits }

-- the names of borrowed files
abbrev pub names_of : JobFiles → Names
names_of files = record {
  model = files.model.now;
  closed = option_copied files.closed;
  initial = option_copied files.initial;
  changed = option_copied files.changed;
  report = option_copied files.report;
  edits = option_copied files.edits;
}

-- the name of a file of a job
unfoldable pub name_of : Names → File → List ℕ
name_of names file.Model = names.model
name_of names file.Closed = unwrap_or names.closed []
name_of names file.Initial = unwrap_or names.initial []
name_of names file.Changed = unwrap_or names.changed []
name_of names file.Report = unwrap_or names.report []
name_of names file.Edits = unwrap_or names.edits []

-- the file of each of the two lists
abbrev pub file_of : Role → File
file_of role.Initial = file.Initial
file_of role.Changed = file.Changed

-- a file is one of a job's
abbrev pub IsNamed : Names → File → Type 0
IsNamed names file.Model = Unit {0}
IsNamed names file.Closed = IsSome names.closed
IsNamed names file.Initial = IsSome names.initial
IsNamed names file.Changed = IsSome names.changed
IsNamed names file.Report = IsSome names.report
IsNamed names file.Edits = IsSome names.edits

-- the order in which a job reads its files
abbrev pub rank_of : File → ℕ
rank_of file.Model = 0
rank_of file.Closed = 1
rank_of file.Initial = 2
rank_of file.Changed = 3
rank_of file.Edits = 4
rank_of file.Report = 5

-- a file is read no later than another one
abbrev pub is_up_to : File → File → Bool
is_up_to f last = nat_le (rank_of f) (rank_of last)

-- the job has no file that is read after this one
abbrev pub EndsAt : Names → File → Type 0
EndsAt names last = (f : File) → IsNamed names f → is_up_to f last ≡ true

-- what the files hold, by their names, as far as it is told
abbrev pub Held : Type 0
Held = List ℕ → Option (List ℕ)

-- the counts of faults, by the names of files
abbrev pub Faults : Type 0
Faults = List ℕ → ℕ

-- the model file means these tables, if its bytes are told
abbrev pub ModelIs : Held → List ℕ → Tables → Type 0
ModelIs held name i = IfSome (held name) (λ bytes. IsModel bytes i)

-- these are the tables of a model with the machines of a closed list closed, if one is named
abbrev pub CloseIs : Held → Option (List ℕ) → Tables → Tables → Type 0
CloseIs held None model i = i ≡ model
CloseIs held (Some name) model i =
    (flags : Listed Bool) × (i ≡ with_closed model flags)
    × IfSome (held name) (λ bytes. IsClosedOf bytes model flags.items)

-- a model file and a closed list, if one is named, mean the instance of these tables
pub record InstanceIs (held : Held) (name : List ℕ) (closed_name : Option (List ℕ)) (i : Tables) :
    Type 0 where
  pub model : Tables
  pub read : ModelIs held name model
  pub closed : CloseIs held closed_name model i

-- a file means this assignment, if its bytes are told
abbrev pub ListIs : Held → List ℕ → Tables → List Machine → Type 0
ListIs held name i a = IfSome (held name) (λ bytes. IsAssignmentOf bytes i a)

-- a file that a job may lack means this assignment, if the job has it
abbrev pub NamedListIs : Held → Option (List ℕ) → Tables → List Machine → Type 0
NamedListIs held None i a = Unit {0}
NamedListIs held (Some name) i a = ListIs held name i a

-- the model, the closed list and the lists were read and accepted: they mean this instance and these lists
pub record Accepts (held : Held) (names : Names) (i : Tables) (a0 a : List Machine) : Type 0 where
  pub instance : InstanceIs held names.model names.closed i
  pub initial : NamedListIs held names.initial i a0
  pub changed : NamedListIs held names.changed i a

-- the files are accepted, and both lists are feasible
pub record Passes (held : Held) (names : Names) (i : Tables) (a0 a : List Machine) : Type 0 where
  pub accepts : Accepts held names i a0 a
  pub initial : Feasible i a0 a0
  pub changed : Feasible i a0 a
