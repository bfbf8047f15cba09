use Rattle.ra_laws.proofs.GuardLemmas.{untouched_is_apart}
use Rattle.ra_laws.proofs.guards.untouched_is_apart.Goals as goal

pub returns : goal.returns
returns c = untouched_is_apart
