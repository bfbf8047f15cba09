use Rattle.ra_pins.proofs.RoundLemmas.{rounds_only_add}
use Rattle.ra_laws.proofs.pins.rounds_only_add.Goals as goal

pub returns : goal.returns
returns c = rounds_only_add
