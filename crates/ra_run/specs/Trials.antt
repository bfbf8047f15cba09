-- `trial`. It has no files of the caller: it reads the texts that it makes itself.
use Rattle.std.specs.Prelude.{◌≡◌, ◌⊎◌, ℕ, List, [], ◌∷◌, codes, Some, None}
use Rattle.ra_base.specs.declared.causes.Drawing.TheVariants.{Two}
use Rattle.ra_base.specs.declared.ids.Machine.{Machine}
use Rattle.ra_draws.specs.declared.budgets.Lots.{Lots}
use Rattle.ra_draws.specs.declared.sources.Source.TheVariants.{Seed}
use Rattle.ra_draws.specs.Shown.{drawing_in, lots_shown, slack_in}
use Rattle.ra_journal.specs.Solo.{solo}
use Rattle.ra_journal.specs.Openings.{Opening, opening}
use Rattle.ra_model.specs.declared.raw.Tables.{Tables}
use Rattle.ra_report.specs.Summaries.{summary_text}
use Rattle.ra_trial.specs.Instances.{IsTrial, start_list}
use Rattle.ra_trial.specs.Numbers.{trial_word}
use Rattle.ra_trial.specs.Trials.{trial_model_text, start_text}
use Rattle.ra_jobs.specs.declared.refusals.Refusal.{Refusal}
use Rattle.ra_jobs.specs.declared.refusals.Refusal.TheVariants as refusal
use Rattle.ra_jobs.specs.declared.status.Status.TheVariants.{Done, WriteFault, NoMemory}
use Rattle.ra_jobs.specs.Commands.{Command}
use Rattle.ra_jobs.specs.Files.{Held, Names}
use Rattle.ra_run.specs.declared.trial.TrialFault.{TrialFault}
use Rattle.ra_run.specs.declared.trial.TrialFault.TheVariants.{Write, Memory}

-- the files `model` and `start` hold these two texts
pub record HoldsTexts (held : Held) (of_model of_start : List ℕ) : Type 0 where
  pub model : held (codes "model") ≡ Some of_model
  pub start : held (codes "start") ≡ Some of_start

-- the files hold the two texts of a number
abbrev pub HoldsTrial : ℕ → Held → Type 0
HoldsTrial number held = HoldsTexts held (trial_model_text number) start_text

-- these are the instance of a number and its start
pub record IsTrialStart (number : ℕ) (i : Tables) (a0 : List Machine) : Type 0 where
  pub trial : IsTrial (trial_word number) i
  pub initial : a0 ≡ start_list

-- the one lot of a number: its words are those of the generator that the number seeds, and it makes 2,000 proposals;
-- the slack is 1,000, and the drawing is the second
pub record IsTrialLots (number : ℕ) (l : Lots) : Type 0 where
  pub slack : slack_in l ≡ 1000
  pub drawing : drawing_in l ≡ Two
  pub lots : lots_shown l ≡ record { source = Seed number; budget = 2000 } ∷ []

-- the summary of the run of one worker alone was sent
abbrev pub IsSummarized : Opening → (List ℕ → Type 0) → Type 0
IsSummarized o sent = sent (summary_text o (solo o))

-- `trial`: the summary of the run of one worker was sent, for the instance, the start and the lot of a number. It
-- doesn't matter which instance and which lots of the number these are: they differ only in the rooms of their lists,
-- and the text depends only on the number (`ra_laws`, `trials_have_one_text`)
pub record TrialPrinted (number : ℕ) (sent : List ℕ → Type 0) : Type 0 where
  pub tables : Tables
  pub lots : Lots
  pub trial : IsTrial (trial_word number) tables
  pub lots_are : IsTrialLots number lots
  pub text : IsSummarized (opening tables start_list lots) sent

-- why a trial is refused; `written` holds if writing its summary failed
abbrev pub TrialReason : Type 0 → TrialFault → Type 0
TrialReason written Write = written
TrialReason written Memory = Unit {0}

-- the reasons of its refusals: the output broke off after a front of the summary, or memory was refused. There is no
-- other reason
abbrev pub TrialRefused : ℕ → (List ℕ → Type 0) → Refusal → Type 0
TrialRefused number broke_off refusal.Write = TrialPrinted number broke_off
TrialRefused number broke_off refusal.Memory = Unit {0}
TrialRefused number broke_off why = ⊥

-- the names of no files
abbrev pub no_names : Names
no_names = record {
  model = [];
  closed = None;
  initial = None;
  changed = None;
  report = None;
  edits = None;
}

abbrev pub trial_command : ℕ → Command
trial_command number = record {
  names = no_names;
  prints = λ held sent. TrialPrinted number sent;
  refuses = λ files took broke_off. TrialRefused number broke_off;
  comes = λ files out status. (status ≡ Done) ⊎ ((status ≡ WriteFault) ⊎ (status ≡ NoMemory));
  valid = λ files. Unit {0};
  answers = λ status. (status ≡ Done) ⊎ (status ≡ NoMemory);
}
