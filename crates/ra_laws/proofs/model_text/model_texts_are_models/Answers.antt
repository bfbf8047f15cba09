use Rattle.ra_model_text.proofs.Meaning.{text_is_model}
use Rattle.ra_laws.proofs.model_text.model_texts_are_models.Goals as goal

pub returns : goal.returns
returns c = text_is_model
