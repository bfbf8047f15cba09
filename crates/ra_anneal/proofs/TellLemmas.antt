-- How a command ends that prints a text.
use Rattle.std.proofs.Common.{◌≡◌, ℕ, List, true, false, inl, inr, sym, ◌∙◌, [], None}
use Rattle.ra_io.specs.Outside.{Reading, Took}
use Rattle.ra_jobs.specs.declared.refusals.Refusal.TheVariants.{Write, Memory}
use Rattle.ra_jobs.specs.declared.status.Status.{Status}
use Rattle.ra_jobs.specs.declared.status.Status.TheVariants.{Done, WriteFault, NoMemory, Usage}
use Rattle.ra_jobs.specs.Ends.{Does, Leaves}
use Rattle.ra_jobs.specs.Files.{Names, bound_names}
use Rattle.ra_jobs.specs.Lines.{refusal_line}
use Rattle.ra_jobs.specs.Output.{Output, BrokeOff, Put}
use Rattle.ra_jobs.specs.Statuses.{status_of}
use Rattle.ra_anneal.specs.Commands.{text_command}

module _ (text : List ℕ) (files : Reading) (out err : Output) (status : Status) (leaves : Leaves files out err) where
  pub tell_done : status ≡ Done → Took out.sink text → err.same → Does (text_command text) files out err status
  tell_done is printed no_line = record {
    printed = λ _. printed;
    no_line = λ _. no_line;
    refused = λ other. absurd (other is);
    not_usage = λ e. let both : Done ≡ Usage = sym is ∙ e in cc;
    comes = inl is;
    complete = λ _ _. inl is;
    leaves = leaves;
  }

  pub tell_broke : status ≡ WriteFault → BrokeOff out.sink text →
      ((names : Names) → Put err.sink (refusal_line names Write)) → Does (text_command text) files out err status
  unfolding status_of
  tell_broke is broken line = record {
    printed = λ e. absurd (let both : WriteFault ≡ Done = sym is ∙ e in cc);
    no_line = λ e. absurd (let both : WriteFault ≡ Done = sym is ∙ e in cc);
    refused = λ _. record {
      refusal = Write;
      reason = broken;
      is = is;
      line = line (bound_names [] None None);
      no_output = λ first. absurd (let both : true ≡ false = first in cc);
    };
    not_usage = λ e. let both : WriteFault ≡ Usage = sym is ∙ e in cc;
    comes = inr (inl is);
    complete = λ _ wrote. absurd (wrote broken.1);
    leaves = leaves;
  }

  pub tell_memory : status ≡ NoMemory → ((names : Names) → Put err.sink (refusal_line names Memory)) → out.same →
      Does (text_command text) files out err status
  unfolding status_of
  tell_memory is line same = record {
    printed = λ e. absurd (let both : NoMemory ≡ Done = sym is ∙ e in cc);
    no_line = λ e. absurd (let both : NoMemory ≡ Done = sym is ∙ e in cc);
    refused = λ _. record {
      refusal = Memory;
      reason = tt;
      is = is;
      line = line (bound_names [] None None);
      no_output = λ _. same;
    };
    not_usage = λ e. let both : NoMemory ≡ Usage = sym is ∙ e in cc;
    comes = inr (inr is);
    complete = λ _ _. inr is;
    leaves = leaves;
  }
