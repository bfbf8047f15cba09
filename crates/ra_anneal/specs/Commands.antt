-- The command of each job of the words.
use Rattle.std.specs.Prelude.{◌≡◌, ◌↔◌, ◌⊎◌, List, ℕ, [], Option, None}
use Rattle.ra_jobs.specs.declared.refusals.Refusal.{Refusal}
use Rattle.ra_jobs.specs.declared.refusals.Refusal.TheVariants.{Write, Memory}
use Rattle.ra_jobs.specs.declared.status.Status.{Status}
use Rattle.ra_jobs.specs.declared.status.Status.TheVariants.{Done, NoMemory, Usage, WriteFault}
use Rattle.ra_jobs.specs.Commands.{Command}
use Rattle.ra_jobs.specs.Files.{bound_names}
use Rattle.ra_jobs.specs.Output.{Output, Put}
use Rattle.ra_anneal.specs.Headline.{anneal_command}
use Rattle.ra_anneal.specs.Jobs.{AnnealSays, Helps, Versions, Anneals}
use Rattle.ra_anneal.specs.Texts.{help_text, usage_text, version_text}

-- why a text isn't printed; `written` holds if writing it failed
abbrev pub TextRefused : Type 0 → Refusal → Type 0
TextRefused written Write = written
TextRefused written Memory = Unit {0}
TextRefused written why = ⊥

-- the command that prints a text, and has no files
abbrev pub text_command : List ℕ → Command
text_command text = record {
  names = bound_names [] None None;
  prints = λ held sent. sent text;
  refuses = λ files took broke_off. TextRefused (broke_off text);
  comes = λ files out status. (status ≡ Done) ⊎ ((status ≡ WriteFault) ⊎ (status ≡ NoMemory));
  valid = λ files. Unit {0};
  answers = λ status. (status ≡ Done) ⊎ (status ≡ NoMemory);
}

abbrev pub command_of : AnnealSays → Command
command_of Helps = text_command help_text
command_of Versions = text_command version_text
command_of (Anneals model initial from closed schedule) = anneal_command model initial from closed

-- the status of words that ask for none of this comes for these and for no others, with the usage line and no output
pub record UsageComes (job : Option AnnealSays) (out err : Output) (status : Status) : Type 0 where
  pub exactly : (status ≡ Usage) ↔ (job ≡ None)
  pub line : status ≡ Usage → Put err.sink usage_text
  pub no_output : status ≡ Usage → out.same
