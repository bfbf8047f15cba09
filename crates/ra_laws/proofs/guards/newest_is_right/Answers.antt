use Rattle.ra_guards.proofs.NewestLemmas.{newest_is_right}
use Rattle.ra_laws.proofs.guards.newest_is_right.Goals as goal

pub returns : goal.returns
returns c = newest_is_right
