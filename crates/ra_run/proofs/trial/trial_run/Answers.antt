-- How the trial ended is how the command ends, whatever files there are.
use Rattle.ra_jobs.specs.Output.{output}
use Rattle.ra_run.proofs.TrialLemmas.{trial_broke, trial_memory}
use Rattle.ra_run.proofs.trial.trial_run.Goals as goal

pub returns-in-Err-Write : goal.returns-in-Err-Write
returns-in-Err-Write g c =
    λ files left. trial_broke c.args.number files (output g.O.Sink c.args.out.now c.trial.new.out)
    (output g.E.Sink c.args.err.now c.refuse_write.new.err) c.refuse_write.result c.refuse_write.ensures.status
    (rw (c.in-Err-Write.is, c.in-Err-Write.field-0-is) at c.trial.ensures.refused) c.refuse_write.ensures.line
    (record {
      of_files = left;
      out_never_falls = c.trial.ensures.never_falls;
      err_never_falls = c.refuse_write.ensures.never_falls;
    })

pub returns-in-Err-Memory : goal.returns-in-Err-Memory
returns-in-Err-Memory g c =
    λ files left. trial_memory c.args.number files (output g.O.Sink c.args.out.now c.trial.new.out)
    (output g.E.Sink c.args.err.now c.refuse_memory.new.err) c.refuse_memory.result c.refuse_memory.ensures.status
    c.refuse_memory.ensures.line ((rw c.in-Err-Memory.is at c.trial.ensures.no_output) (λ e. cc))
    (record {
      of_files = left;
      out_never_falls = c.trial.ensures.never_falls;
      err_never_falls = c.refuse_memory.ensures.never_falls;
    })
