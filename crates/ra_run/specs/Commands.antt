-- The command of each job of the words.
use Rattle.std.specs.Prelude.{◌≡◌, ◌↔◌, ℕ, List, [], ◌∷◌, Option, None, map}
use Rattle.ra_base.specs.declared.causes.Drawing.{Drawing}
use Rattle.ra_draws.specs.declared.budgets.Lots.{Lots}
use Rattle.ra_draws.specs.Shown.{drawing_in, lots_shown, slack_in}
use Rattle.ra_words.specs.Jobs.{JobSays, Checks, Bounds, Solves, Trials, Verifies, Repairs, Edits}
use Rattle.ra_words.specs.LotTexts.{LotSays}
use Rattle.ra_words.specs.Said.{said_lot}
use Rattle.ra_report.specs.FaultTexts.{usage_line}
use Rattle.ra_report.specs.Pieces.{joined}
use Rattle.ra_report.specs.Texts.{line_end}
use Rattle.ra_jobs.specs.declared.status.Status.{Status}
use Rattle.ra_jobs.specs.declared.status.Status.TheVariants.{Usage}
use Rattle.ra_jobs.specs.Commands.{Command}
use Rattle.ra_jobs.specs.Output.{Output, Put}
use Rattle.ra_jobs.specs.Outputs.{check_command, bound_command}
use Rattle.ra_jobs.specs.Repairing.{repair_command}
use Rattle.ra_jobs.specs.Editing.{edit_command}
use Rattle.ra_run.specs.Headline.{solve_command}
use Rattle.ra_run.specs.Trials.{trial_command}
use Rattle.ra_run.specs.Verifying.{verify_command}

-- the lots are those in the words
pub record AreLots (slack : ℕ) (drawing : Drawing) (lots : List LotSays) (l : Lots) : Type 0 where
  pub slack_is : slack_in l ≡ slack
  pub drawing_is : drawing_in l ≡ drawing
  pub lots_are : map said_lot (lots_shown l) ≡ lots

abbrev pub command_of : JobSays → Command
command_of (Checks model initial changed closed) = check_command model initial changed closed
command_of (Bounds model initial closed) = bound_command model initial closed
command_of (Solves model initial closed slack drawing lots) =
    solve_command model initial closed (AreLots slack drawing lots)
command_of (Trials number) = trial_command number
command_of (Verifies model initial report closed slack drawing lots) =
    verify_command model initial report closed (AreLots slack drawing lots)
command_of (Repairs model initial closed slack drawing lots) =
    repair_command model initial closed (AreLots slack drawing lots)
command_of (Edits model initial current edits closed) =
    edit_command model initial current edits closed

-- the status of words that are not a job comes for these and for no others, with the usage line and no output
pub record UsageComes (job : Option JobSays) (out err : Output) (status : Status) : Type 0 where
  pub exactly : (status ≡ Usage) ↔ (job ≡ None)
  pub line : status ≡ Usage → Put err.sink (joined (usage_line ∷ line_end ∷ []))
  pub no_output : status ≡ Usage → out.same
