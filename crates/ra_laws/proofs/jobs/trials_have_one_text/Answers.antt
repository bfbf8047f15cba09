use Rattle.ra_laws.proofs.JobLemmas.{trials_have_one_text}
use Rattle.ra_laws.proofs.jobs.trials_have_one_text.Goals as goal

pub returns : goal.returns
returns c = trials_have_one_text
