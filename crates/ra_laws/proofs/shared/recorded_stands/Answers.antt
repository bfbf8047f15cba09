use Rattle.ra_shared.proofs.Handing.{recorded_stands}
use Rattle.ra_laws.proofs.shared.recorded_stands.Goals as goal

pub returns : goal.returns
returns c = recorded_stands
