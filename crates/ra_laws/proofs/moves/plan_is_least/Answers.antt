-- The law is proved in a lemma file.
use Rattle.ra_laws.proofs.LeastLemmas as least
use Rattle.ra_laws.proofs.moves.plan_is_least.Goals as goal

pub returns : goal.returns
returns c = least.plan_is_least
