use Rattle.ra_trial.proofs.TextMeans.{text_accepted_whole}
use Rattle.ra_laws.proofs.trial.model_texts_are_accepted.Goals as goal

pub returns : goal.returns
returns c = text_accepted_whole
