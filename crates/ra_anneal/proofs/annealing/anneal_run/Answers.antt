use Rattle.std.proofs.Common.{refl, arith}
use Rattle.ra_io.specs.Outside.{reading}
use Rattle.ra_words.specs.Words.{texts}
use Rattle.ra_jobs.specs.Output.{output}
use Rattle.ra_anneal.specs.Jobs.{job_of}
use Rattle.ra_anneal.proofs.AnnealLemmas.{memory_any}
use Rattle.ra_anneal.proofs.annealing.anneal_run.Goals as goal

pub returns-in-Ok-clause-usage : goal.returns-in-Ok-clause-usage
returns-in-Ok-clause-usage g c = record {
  exactly = (λ e. absurd (c.do_job-status.ensures.not_usage e), λ none. absurd (let some = c.in-Ok.ensures.ok in cc));
  line = λ e. absurd (c.do_job-status.ensures.not_usage e);
  no_output = λ e. absurd (c.do_job-status.ensures.not_usage e);
}

pub returns-in-Ok-clause-does : goal.returns-in-Ok-clause-does
returns-in-Ok-clause-does g c = rw c.in-Ok.ensures.ok c.do_job-status.ensures

pub returns-in-Ok-clause-leaves : goal.returns-in-Ok-clause-leaves
returns-in-Ok-clause-leaves g c = c.do_job-status.ensures.leaves

pub returns-in-Err-NoMemory-clause-does : goal.returns-in-Err-NoMemory-clause-does
returns-in-Err-NoMemory-clause-does g c =
    memory_any (job_of (texts c.args.words.now)) (reading g.F.Files c.args.files.now c.args.files.now)
    (output g.O.Sink c.args.out.now c.args.out.now) (output g.E.Sink c.args.err.now c.refuse_memory.new.err)
    c.refuse_memory.result c.refuse_memory.ensures.status c.refuse_memory.ensures.line refl
    (record {
      of_files = record { kept = λ other. refl; never_fall = λ other. omega arith };
      out_never_falls = omega arith;
      err_never_falls = c.refuse_memory.ensures.never_falls;
    })
