use Rattle.ra_guards.proofs.ResidentLemmas.{untouched_is_right}
use Rattle.ra_laws.proofs.guards.untouched_is_right.Goals as goal

pub returns : goal.returns
returns c = untouched_is_right
