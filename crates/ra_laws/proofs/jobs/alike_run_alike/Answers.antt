use Rattle.ra_laws.proofs.AlikeLemmas.{alike_run_alike}
use Rattle.ra_laws.proofs.jobs.alike_run_alike.Goals as goal

pub returns : goal.returns
returns c = alike_run_alike
