-- The law is proved in a lemma file.
use Rattle.ra_laws.proofs.LeastLemmas as least
use Rattle.ra_laws.proofs.journal.best_is_least.Goals as goal

pub returns : goal.returns
returns c = least.best_is_least
