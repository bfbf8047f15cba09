use Rattle.ra_trial.proofs.TextMeans.{text_is_trial}
use Rattle.ra_laws.proofs.trial.model_texts_are_trials.Goals as goal

pub returns : goal.returns
returns c = text_is_trial
