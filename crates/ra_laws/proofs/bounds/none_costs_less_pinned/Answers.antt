use Rattle.ra_bounds.proofs.PinnedLemmas.{none_costs_less_pinned}
use Rattle.ra_laws.proofs.bounds.none_costs_less_pinned.Goals as goal

pub returns : goal.returns
returns c = none_costs_less_pinned
