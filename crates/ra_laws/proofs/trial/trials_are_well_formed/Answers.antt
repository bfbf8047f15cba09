use Rattle.ra_trial.proofs.TrialLimits.{trial_fits}
use Rattle.ra_laws.proofs.trial.trials_are_well_formed.Goals as goal

pub returns : goal.returns
returns c = trial_fits
