use Rattle.ra_token.proofs.ToldLemmas.{at_exit}
use Rattle.ra_jobs.proofs.StageLemmas.{model_reason}
use Rattle.ra_jobs.proofs.reading.read_open.Goals as goal

pub returns-in_err-read_model-clause-refused : goal.returns-in_err-read_model-clause-refused
returns-in_err-read_model-clause-refused g c =
    at_exit _ _ _ c.from_residual.ensures
    (rw (← c.as_str.ensures)
    (model_reason (g.F.Files.held c.args.files.now) c.as_str.result.now (g.F.Files.faults c.args.files.now)
    (g.F.Files.faults c.read_model.new.files) c.in_err-read_model.field-0.0
    (λ e.
    c.in_err-read_model.ensures.fault (rw e))
    c.in_err-read_model.ensures.refused))
