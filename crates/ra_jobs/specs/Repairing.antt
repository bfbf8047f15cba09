-- `repair`: tries from a start that may break constraints.
use Rattle.std.specs.Prelude.{◌≡◌, ◌≢◌, ◌⊎◌, ℕ, List, [], ◌∷◌, length, Option, Some, None}
use Rattle.ra_base.specs.declared.causes.Cause.{Cause}
use Rattle.ra_base.specs.declared.ids.Machine.{Machine}
use Rattle.ra_draws.specs.declared.budgets.Lots.{Lots}
use Rattle.ra_draws.specs.declared.sources.Lot.{Lot}
use Rattle.ra_draws.specs.Shown.{lots_shown}
use Rattle.ra_model.specs.declared.raw.Tables.{Tables}
use Rattle.ra_model.specs.Broken.{first_broken}
use Rattle.ra_model.specs.Feasible.{Feasible}
use Rattle.ra_repair.specs.Runs.{repair_run}
use Rattle.ra_report.specs.RepairTexts.{repair_lines}
use Rattle.ra_jobs.specs.declared.refusals.File.TheVariants as file
use Rattle.ra_jobs.specs.declared.refusals.Refusal.{Refusal}
use Rattle.ra_jobs.specs.declared.refusals.Refusal.TheVariants.{Unrepaired as Left, Write}
use Rattle.ra_jobs.specs.declared.status.Status.{Status}
use Rattle.ra_jobs.specs.declared.status.Status.TheVariants.{Done, Infeasible, Unrepaired, WriteFault, NoMemory}
use Rattle.ra_jobs.specs.Comes.{KnownTo}
use Rattle.ra_jobs.specs.Commands.{Command, OverFiles, over}
use Rattle.ra_jobs.specs.Complete.{AreAccepted}
use Rattle.ra_jobs.specs.Files.{Held, Faults, Names, Accepts, solve_names}
use Rattle.ra_jobs.specs.Stages.{WriteReason}

-- the run of tries from a list: its last list breaks this constraint first, or none, and its text was sent. A list that
-- breaks none is feasible; if the last list breaks some, the whole budget was tried
pub record IsTried (i : Tables) (a0 : List Machine) (lot : Lot) (broken : Option Cause)
    (sent : List ℕ → Type 0) : Type 0 where
  pub is : first_broken i a0 (repair_run i a0 lot).assignment ≡ broken
  pub feasible : broken ≡ None → Feasible i a0 (repair_run i a0 lot).assignment
  pub tried : broken ≢ None → length (repair_run i a0 lot).tries ≡ lot.budget
  pub text : sent (repair_lines broken (repair_run i a0 lot).assignment (repair_run i a0 lot).tries)

-- the files are accepted, and the run of the one lot from the initial list is as `IsTried` says
pub record RepairPrinted (held : Held) (names : Names) (l : Lots) (broken : Option Cause)
    (sent : List ℕ → Type 0) : Type 0 where
  pub tables : Tables
  pub a0 : List Machine
  pub accepts : Accepts held names tables a0 a0
  pub lot : Lot
  pub one : lots_shown l ≡ lot ∷ []
  pub run : IsTried tables a0 lot broken sent

-- its own refusals: the output took the text of a run whose last list breaks a constraint; or it took a front of a text
-- and broke off
abbrev pub RepairOwn : Held → Names → Lots → (List ℕ → Type 0) → (List ℕ → Type 0) → Refusal
    → Type 0
RepairOwn held names l took broke_off (Left cause) = RepairPrinted held names l (Some cause) took
RepairOwn held names l took broke_off Write =
    (broken : Option Cause) × RepairPrinted held names l broken broke_off
RepairOwn held names l took broke_off refusal = ⊥

-- the last list of the run of the one lot breaks this constraint first, or none
abbrev pub LeavesBroken : Tables → List Machine → Lots → Option Cause → Type 0
LeavesBroken i a0 l broken =
    (lot : Lot) → lots_shown l ≡ lot ∷ []
    → first_broken i a0 (repair_run i a0 lot).assignment ≡ broken

-- for the lots that were asked for: when each of its own statuses comes. No list has to be feasible. It holds for any
-- instance that the files mean: by `told_files_mean_one` and `alike_run_alike` of `ra_laws` the run is the same from
-- each
pub record RepairComes (held : Held) (names : Names) (asked : Lots → Type 0) (before now : Faults)
    (status : Status) : Type 0 where
  pub never_infeasible : status ≢ Infeasible
  pub unrepaired : status ≡ Unrepaired
      → (l : Lots) × asked l × ((cause : Cause) × RepairPrinted held names l (Some cause) (λ text. Unit {0}))
  pub stays : (i : Tables) (a0 : List Machine) → Accepts held names i a0 a0
      → KnownTo held names before now file.Initial → (cause : Cause)
      → ((l : Lots) → asked l → LeavesBroken i a0 l (Some cause))
      → (status ≡ Unrepaired) ⊎ ((status ≡ WriteFault) ⊎ (status ≡ NoMemory))
  pub is_repaired : (i : Tables) (a0 : List Machine) → Accepts held names i a0 a0
      → KnownTo held names before now file.Initial → ((l : Lots) → asked l → LeavesBroken i a0 l None)
      → (status ≡ Done) ⊎ ((status ≡ WriteFault) ⊎ (status ≡ NoMemory))

-- the own part of `repair` for the lots that were asked for: over accepted files its tries are told
abbrev pub repaired : Names → (Lots → Type 0) → OverFiles
repaired names asked = record {
  names = names;
  prints = λ held sent. (l : Lots) × asked l × RepairPrinted held names l None sent;
  refuses = λ held took broke_off refusal.
      (l : Lots) × asked l × RepairOwn held names l took broke_off refusal;
  own_comes = λ files status. RepairComes files.held names asked files.before files.after status;
  valid = λ held. AreAccepted held names;
  answers = λ status. (status ≡ Done) ⊎ ((status ≡ Unrepaired) ⊎ (status ≡ NoMemory));
}

abbrev pub repair_command : List ℕ → List ℕ → Option (List ℕ) → (Lots → Type 0) → Command
repair_command model initial closed asked = over (repaired (solve_names model initial closed) asked)

-- ---- the stages

-- why the tries are refused
abbrev pub TryReason : Tables → List Machine → Lot → (List ℕ → Type 0) → (List ℕ → Type 0) → Refusal
    → Type 0
TryReason i a0 lot took broke_off (Left cause) = IsTried i a0 lot (Some cause) took
TryReason i a0 lot took broke_off refusal =
    WriteReason ((broken : Option Cause) × IsTried i a0 lot broken broke_off) refusal
