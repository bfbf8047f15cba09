use Rattle.ra_model_read.proofs.Meaning.{model_is_its_numbers}
use Rattle.ra_laws.proofs.reading.model_is_its_numbers.Goals as goal

pub returns : goal.returns
returns c = model_is_its_numbers
