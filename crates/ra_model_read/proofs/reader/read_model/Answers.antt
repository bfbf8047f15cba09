use Rattle.ra_model_read.proofs.Meaning.{means, refuses_as, is_model, has_text, told_model_is_its_numbers, no_content}
use Rattle.ra_token.proofs.ToldLemmas.{at_exit}
use Rattle.ra_model_read.proofs.reader.read_model.Goals as goal

pub returns-in_default-clause-refused : goal.returns-in_default-clause-refused
returns-in_default-clause-refused g c = λ by_content. absurd (no_content by_content)

pub returns-in_err-raw-clause-refused : goal.returns-in_err-raw-clause-refused
returns-in_err-raw-clause-refused g c =
    at_exit _ _ _ c.from_residual.ensures
    (λ by_content. refuses_as _ _ _ _ c.in-Ok.ensures.name c.in-Ok.ensures.start c.in_err-raw.ensures.refuses
    by_content)

pub returns-clause-model : goal.returns-clause-model
returns-clause-model g c =
    is_model _ _ _ c.of.ensures (means _ _ _ _ c.in-Ok.ensures.name c.in-Ok.ensures.start c.in_ok-raw.ensures.gives)

pub returns-clause-text : goal.returns-clause-text
returns-clause-text g c = has_text _ _ _ c.in_ok-raw.ensures.well_formed c.of.ensures
    (means _ _ _ _ c.in-Ok.ensures.name c.in-Ok.ensures.start c.in_ok-raw.ensures.gives)

pub returns-clause-every_text : goal.returns-clause-every_text
returns-clause-every_text g c = told_model_is_its_numbers _

pub returns-in_err-raw-clause-every_text : goal.returns-in_err-raw-clause-every_text
returns-in_err-raw-clause-every_text g c = told_model_is_its_numbers _

pub returns-in_default-clause-every_text : goal.returns-in_default-clause-every_text
returns-in_default-clause-every_text g c = told_model_is_its_numbers _
