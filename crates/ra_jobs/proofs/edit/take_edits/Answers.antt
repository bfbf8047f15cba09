use Rattle.ra_jobs.proofs.EditLemmas.{edits_reason}
use Rattle.ra_jobs.proofs.edit.take_edits.Goals as goal

pub returns-in-Ok-clause-read : goal.returns-in-Ok-clause-read
returns-in-Ok-clause-read g c = record {
  edits = rw (← c.as_str.ensures) c.in-Ok.ensures.ok;
  fits = c.in-Ok.ensures.fits;
}

pub returns-in-Err-clause-refused : goal.returns-in-Err-clause-refused
returns-in-Err-clause-refused g c = rw (c.edits_refused.ensures, ← c.as_str.ensures)
    (edits_reason (g.F.Files.held c.args.files.now) c.as_str.result.now c.args.inst.now.tables
    (g.F.Files.faults c.args.files.now) (g.F.Files.faults c.read_edits.new.files) c.in-Err.fault
    (λ e. c.in-Err.ensures.fault (rw e))
    c.in-Err.ensures.refused)
