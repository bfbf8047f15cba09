use Rattle.ra_trial.proofs.StartText.{start_text_is_start}
use Rattle.ra_laws.proofs.trial.start_texts_are_starts.Goals as goal

pub returns : goal.returns
returns c = λ g i a is. start_text_is_start g i is a
