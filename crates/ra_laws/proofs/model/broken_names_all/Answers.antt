use Rattle.ra_laws.proofs.ModelLemmas.{unbroken_is_feasible}
use Rattle.ra_laws.proofs.model.broken_names_all.Goals as goal

pub returns : goal.returns
returns c = unbroken_is_feasible
