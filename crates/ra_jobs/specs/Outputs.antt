-- `check` and `bound`. `sent` is how far a text came: the output took it whole, or broke off after a front of it.
use Rattle.std.specs.Prelude.{◌≡◌, ◌≢◌, ◌⊎◌, ℕ, List, Option, Some, None}
use Rattle.ra_base.specs.declared.ids.Machine.{Machine}
use Rattle.ra_model.specs.declared.raw.Tables.{Tables}
use Rattle.ra_model.specs.Assignments.{IsAssignment}
use Rattle.ra_model.specs.Costs.{parts_of}
use Rattle.ra_bounds.specs.declared.costs.Bound.{Bound}
use Rattle.ra_bounds.specs.Bounds.{bound_of}
use Rattle.ra_bounds.specs.PinnedBounds.{pinned_bound_of}
use Rattle.ra_report.specs.JournalTexts.{bound_text}
use Rattle.ra_report.specs.Texts.{parts_text}
use Rattle.ra_jobs.specs.declared.status.Status.TheVariants.{Done, Infeasible, NoMemory}
use Rattle.ra_jobs.specs.Commands.{Command, OverFiles, over, judged}
use Rattle.ra_jobs.specs.Complete.{AreAccepted}
use Rattle.ra_jobs.specs.Files.{Held, Names, check_names, bound_names, InstanceIs, ListIs, Passes}
use Rattle.ra_jobs.specs.Refusals.{OnlyWrites}

-- `check`: all files passed, and the six lines of the parts of the new list were sent
pub record CheckPrinted (held : Held) (names : Names) (sent : List ℕ → Type 0) : Type 0 where
  pub tables : Tables
  pub a0 : List Machine
  pub a : List Machine
  pub passes : Passes held names tables a0 a
  pub text : sent (parts_text (parts_of tables a0 a))

abbrev pub checked : Names → OverFiles
checked names = judged names (λ held sent. CheckPrinted held names sent)

abbrev pub check_command : List ℕ → List ℕ → List ℕ → Option (List ℕ) → Command
check_command model initial changed closed =
    over (checked (check_names model initial changed closed))

-- the bound of an instance; if an initial list is named, the bound of both, which counts the load of the pinned
-- processes
abbrev pub BoundIs : Held → Option (List ℕ) → Tables → Bound → Type 0
BoundIs held None i bound = bound ≡ bound_of i
BoundIs held (Some name) i bound =
    (a0 : List Machine) × ListIs held name i a0 × IsAssignment i a0 × (bound ≡ pinned_bound_of i a0)

-- the files of `bound` mean an instance and an initial list, if one is named, and this is their bound
pub record BoundRead (held : Held) (names : Names) (bound : Bound) : Type 0 where
  pub tables : Tables
  pub instance : InstanceIs held names.model names.closed tables
  pub is : BoundIs held names.initial tables bound

-- `bound`: the three lines of the bound were sent
pub record BoundPrinted (held : Held) (names : Names) (sent : List ℕ → Type 0) : Type 0 where
  pub bound : Bound
  pub read : BoundRead held names bound
  pub text : sent (bound_text bound)

-- the own part of `bound`, which asks no list to be feasible
abbrev pub bounded : Names → OverFiles
bounded names = record {
  names = names;
  prints = λ held sent. BoundPrinted held names sent;
  refuses = λ held took broke_off. OnlyWrites (BoundPrinted held names broke_off);
  own_comes = λ files status. status ≢ Infeasible;
  valid = λ held. AreAccepted held names;
  answers = λ status. (status ≡ Done) ⊎ (status ≡ NoMemory);
}

abbrev pub bound_command : List ℕ → Option (List ℕ) → Option (List ℕ) → Command
bound_command model initial closed = over (bounded (bound_names model initial closed))
