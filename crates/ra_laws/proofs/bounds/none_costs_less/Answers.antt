use Rattle.ra_bounds.proofs.CostLemmas.{none_costs_less}
use Rattle.ra_laws.proofs.bounds.none_costs_less.Goals as goal

pub returns : goal.returns
returns c = none_costs_less
