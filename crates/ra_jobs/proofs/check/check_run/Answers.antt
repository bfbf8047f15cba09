use Rattle.ra_jobs.specs.Outputs.{checked}
use Rattle.ra_jobs.proofs.DoesLemmas.{does_for}
use Rattle.ra_jobs.proofs.check.check_run.Goals as goal

pub returns : goal.returns
returns g c = does_for checked _ _ _ _ _ _ c.of_check-names.ensures.names c.check_job.ensures
