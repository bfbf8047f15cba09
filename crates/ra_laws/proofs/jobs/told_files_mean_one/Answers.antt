use Rattle.ra_laws.proofs.JobLemmas.{told_files_mean_one}
use Rattle.ra_laws.proofs.jobs.told_files_mean_one.Goals as goal

pub returns : goal.returns
returns c = told_files_mean_one
