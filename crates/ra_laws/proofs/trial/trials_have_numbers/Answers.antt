use Rattle.ra_trial.proofs.TrialNumbers.{has_numbers}
use Rattle.ra_laws.proofs.trial.trials_have_numbers.Goals as goal

pub returns : goal.returns
returns c = has_numbers
