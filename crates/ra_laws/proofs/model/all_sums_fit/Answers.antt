use Rattle.ra_model.proofs.BoundLemmas.{sums_fit}
use Rattle.ra_laws.proofs.model.all_sums_fit.Goals as goal

pub returns : goal.returns
returns c = sums_fit
