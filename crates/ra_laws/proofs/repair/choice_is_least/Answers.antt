-- The law is proved in a lemma file.
use Rattle.ra_laws.proofs.LeastLemmas as least
use Rattle.ra_laws.proofs.repair.choice_is_least.Goals as goal

pub returns : goal.returns
returns c = least.choice_is_least
