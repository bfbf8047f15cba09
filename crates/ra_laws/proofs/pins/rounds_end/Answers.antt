use Rattle.ra_laws.proofs.PinLemmas.{rounds_end}
use Rattle.ra_laws.proofs.pins.rounds_end.Goals as goal

pub returns : goal.returns
returns c = rounds_end
