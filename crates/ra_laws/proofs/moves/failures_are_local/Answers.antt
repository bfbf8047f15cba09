use Rattle.ra_moves.proofs.Local.{failures_are_local}
use Rattle.ra_laws.proofs.moves.failures_are_local.Goals as goal

pub returns : goal.returns
returns c = failures_are_local
