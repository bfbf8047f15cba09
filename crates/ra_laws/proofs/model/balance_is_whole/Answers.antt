-- The law is proved in a lemma file.
use Rattle.ra_model.proofs.WholeLemmas as whole
use Rattle.ra_laws.proofs.model.balance_is_whole.Goals as goal

pub returns : goal.returns
returns c = whole.balance_is_whole
