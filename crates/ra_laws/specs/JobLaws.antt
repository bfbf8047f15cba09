-- What jobs compute depends on the numbers of an instance, and never on the rooms of its lists. Each law is proved by a
-- function of `jobs`.
use Rattle.std.specs.Prelude.{◌≡◌, ℕ, List, Bool, Option, Some, None, IsSome}
use Rattle.ra_base.specs.Listed.{Listed}
use Rattle.ra_base.specs.declared.causes.Drawing.{Drawing}
use Rattle.ra_base.specs.declared.ids.Machine.{Machine}
use Rattle.ra_bounds.specs.Bounds.{bound_of}
use Rattle.ra_bounds.specs.PinnedBounds.{pinned_bound_of}
use Rattle.ra_draws.specs.declared.budgets.Lots.{Lots}
use Rattle.ra_draws.specs.declared.sources.Lot.{Lot}
use Rattle.ra_draws.specs.Shown.{drawing_in, lots_shown, slack_in}
use Rattle.ra_journal.specs.declared.entries.Entry.{Entry}
use Rattle.ra_journal.specs.Legal.{Legal}
use Rattle.ra_journal.specs.Solo.{solo}
use Rattle.ra_journal.specs.Openings.{opening}
use Rattle.ra_model.specs.declared.raw.Tables.{Tables}
use Rattle.ra_model.specs.Broken.{first_broken}
use Rattle.ra_model.specs.Costs.{parts_of}
use Rattle.ra_model.specs.Situations.{situation}
use Rattle.ra_model_read.specs.Lists.{lists_of}
use Rattle.ra_moves.specs.declared.steps.Step.{Step}
use Rattle.ra_moves.specs.Judging.{judge}
use Rattle.ra_moves.specs.Options.{plan_of}
use Rattle.ra_repair.specs.Runs.{repair_run}
use Rattle.ra_report.specs.JournalTexts.{report_text}
use Rattle.ra_report.specs.Summaries.{summary_text}
use Rattle.ra_trial.specs.Instances.{IsTrial, start_list}
use Rattle.ra_trial.specs.Numbers.{trial_word}
use Rattle.ra_verify.specs.WrongLines.{IsWrongLine, IsReport}
use Rattle.ra_jobs.specs.declared.refusals.File.{File}
use Rattle.ra_jobs.specs.Files.{Held, Names, name_of, IsNamed, Accepts}
use Rattle.ra_run.specs.Trials.{IsTrialLots, TrialPrinted}

-- the flags of a closed list, if there is one
unfoldable pub flags_of : Option (Listed Bool) → Option (List Bool)
flags_of None = None
flags_of (Some flags) = Some flags.items

-- two instances have equal numbers in their lists and equal flags of closed machines, whatever rooms the lists have
pub record AreAlike (i j : Tables) : Type 0 where
  pub lists : lists_of i.raw ≡ lists_of j.raw
  pub flags : flags_of i.closed ≡ flags_of j.closed

-- two values are equal lots, whatever room their lists have
pub record AreAlikeLots (l k : Lots) : Type 0 where
  pub slack : slack_in l ≡ slack_in k
  pub drawing : drawing_in l ≡ drawing_in k
  pub lots : lots_shown l ≡ lots_shown k

-- jobs compute equal results from two instances
pub record RunAlike (i j : Tables) : Type 0 where
  pub parts : (a0 a : List Machine) → parts_of i a0 a ≡ parts_of j a0 a
  pub broken : (a0 a : List Machine) → first_broken i a0 a ≡ first_broken j a0 a
  pub bound : bound_of i ≡ bound_of j
  pub pinned_bound : (a0 : List Machine) → pinned_bound_of i a0 ≡ pinned_bound_of j a0
  pub planned : (a0 a : List Machine) (x : List ℕ) (drawing : Drawing) (allowed : ℕ)
      → plan_of (situation i a0 a) x drawing allowed ≡ plan_of (situation j a0 a) x drawing allowed
  pub judged : (a0 a : List Machine) (steps : List Step) (allowed : ℕ)
      → judge (situation i a0 a) steps allowed ≡ judge (situation j a0 a) steps allowed
  pub legal : (a0 : List Machine) (l : Lots) (h : List Entry) → Legal (opening i a0 l) h
      → Legal (opening j a0 l) h
  pub report : (a0 : List Machine) (l : Lots) (h : List Entry)
      → report_text (opening i a0 l) h ≡ report_text (opening j a0 l) h
  pub is_report : (a0 : List Machine) (l : Lots) (bytes : List ℕ) (n : ℕ)
      → IsReport (opening i a0 l) bytes n → IsReport (opening j a0 l) bytes n
  pub wrong_line : (a0 : List Machine) (l : Lots) (bytes : List ℕ) (line : Option ℕ)
      → IsWrongLine (opening i a0 l) bytes line → IsWrongLine (opening j a0 l) bytes line
  pub alone : (a0 : List Machine) (l k : Lots) → AreAlikeLots l k
      → solo (opening i a0 l) ≡ solo (opening j a0 k)
  pub summary : (a0 : List Machine) (l : Lots) (h : List Entry)
      → summary_text (opening i a0 l) h ≡ summary_text (opening j a0 l) h
  pub repaired : (a0 : List Machine) (lot : Lot) → repair_run i a0 lot ≡ repair_run j a0 lot

-- instances that are alike run alike
abbrev pub AlikeRunAlike : Type 0
AlikeRunAlike = (i j : Tables) → AreAlike i j → RunAlike i j

-- the bytes of each file that a job has are told
abbrev pub AreTold : Held → Names → Type 0
AreTold held names = (f : File) → IsNamed names f → IsSome (held (name_of names f))

-- what the files of a job mean is alike, twice
pub record MeanAlike (names : Names) (i j : Tables) (a0 b0 a b : List Machine) : Type 0 where
  pub instance : AreAlike i j
  pub initial : IsSome names.initial → a0 ≡ b0
  pub changed : IsSome names.changed → a ≡ b

-- told files mean one instance, apart from the rooms of its lists, and one assignment each
abbrev pub ToldFilesMeanOne : Type 0
ToldFilesMeanOne =
    (held : Held) (names : Names) (i j : Tables) (a0 b0 a b : List Machine) → AreTold held names
    → Accepts held names i a0 a → Accepts held names j b0 b → MeanAlike names i j a0 b0 a b

-- a trial has one text, whatever rooms the lists of its instance and of its lots have: the text depends only on the
-- number
abbrev pub TrialsHaveOneText : Type 0
TrialsHaveOneText =
    (number : ℕ) (i j : Tables) (l k : Lots) → IsTrial (trial_word number) i
    → IsTrial (trial_word number) j → IsTrialLots number l → IsTrialLots number k
    → summary_text (opening i start_list l) (solo (opening i start_list l))
    ≡ summary_text (opening j start_list k) (solo (opening j start_list k))

-- so two trials of a number print the same
abbrev pub TrialsPrintOneText : Type 0
TrialsPrintOneText =
    (number : ℕ) (one other : List ℕ) → TrialPrinted number (λ text. one ≡ text)
    → TrialPrinted number (λ text. other ≡ text) → one ≡ other
