use Rattle.ra_laws.proofs.JobLemmas.{trials_print_one_text}
use Rattle.ra_laws.proofs.jobs.trials_print_one_text.Goals as goal

pub returns : goal.returns
returns c = trials_print_one_text
