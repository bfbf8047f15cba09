use Rattle.ra_model.proofs.BrokenLemmas.{broken_is_constraint}
use Rattle.ra_laws.proofs.model.broken_names_constraints.Goals as goal

pub returns : goal.returns
returns c = broken_is_constraint
