use Rattle.ra_jobs.specs.Outputs.{bounded}
use Rattle.ra_jobs.proofs.DoesLemmas.{does_for}
use Rattle.ra_jobs.proofs.bound.bound_run.Goals as goal

pub returns : goal.returns
returns g c = does_for bounded _ _ _ _ _ _ c.of_bound-names.ensures.names c.bound_job.ensures
