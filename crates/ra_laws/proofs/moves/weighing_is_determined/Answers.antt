use Rattle.ra_moves.proofs.Determined.{weighing_is_determined}
use Rattle.ra_laws.proofs.moves.weighing_is_determined.Goals as goal

pub returns : goal.returns
returns c = weighing_is_determined
