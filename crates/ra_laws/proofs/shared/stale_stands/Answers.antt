use Rattle.ra_shared.proofs.Handing.{stale_stands}
use Rattle.ra_laws.proofs.shared.stale_stands.Goals as goal

pub returns : goal.returns
returns c = stale_stands
