use Rattle.ra_shared.proofs.Agree.{none_above}
use Rattle.ra_laws.proofs.shared.none_above.Goals as goal

pub returns : goal.returns
returns c = none_above
