-- The law is proved in a lemma file.
use Rattle.ra_repair.proofs.RunLemmas as run
use Rattle.ra_laws.proofs.repair.uses_its_budget.Goals as goal

pub returns : goal.returns
returns c = run.uses_its_budget
