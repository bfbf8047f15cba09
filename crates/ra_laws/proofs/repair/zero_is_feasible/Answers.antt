-- The law is proved in a lemma file.
use Rattle.ra_repair.proofs.ZeroLemmas as zero
use Rattle.ra_laws.proofs.repair.zero_is_feasible.Goals as goal

pub returns : goal.returns
returns c = zero.zero_is_feasible
