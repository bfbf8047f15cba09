use Rattle.ra_jobs.specs.Commands.{These}
use Rattle.ra_run.specs.Verifying.{verifying}
use Rattle.ra_jobs.proofs.DoesLemmas.{does_for}
use Rattle.ra_run.proofs.verify.verify_run.Goals as goal

pub returns : goal.returns
returns g c = does_for (λ names. verifying names (These c.args.lots.now)) _ _ _ _ _ _ c.of_verify-names.ensures.names c.verify_job.ensures
