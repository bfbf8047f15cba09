use Rattle.ra_model_text.proofs.Meaning.{text_accepted_whole}
use Rattle.ra_laws.proofs.model_text.model_texts_are_accepted.Goals as goal

pub returns : goal.returns
returns c = text_accepted_whole
