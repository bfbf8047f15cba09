use Rattle.ra_jobs.specs.Commands.{These}
use Rattle.ra_run.specs.Headline.{solving}
use Rattle.ra_jobs.proofs.DoesLemmas.{does_for}
use Rattle.ra_run.proofs.solve.solve_run.Goals as goal

pub returns : goal.returns
returns g c = does_for (λ names. solving names (These c.args.lots.now)) _ _ _ _ _ _ c.of_solve-names.ensures.names c.solve_job.ensures
