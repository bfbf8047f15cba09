use Rattle.ra_jobs.specs.Commands.{These}
use Rattle.ra_jobs.specs.Repairing.{repaired}
use Rattle.ra_jobs.proofs.DoesLemmas.{does_for}
use Rattle.ra_jobs.proofs.repair.repair_run.Goals as goal

pub returns : goal.returns
returns g c = does_for (λ names. repaired names (These c.args.lots.now)) _ _ _ _ _ _ c.of_solve-names.ensures.names c.repair_job.ensures
