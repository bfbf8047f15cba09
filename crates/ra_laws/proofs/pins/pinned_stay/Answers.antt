use Rattle.ra_pins.proofs.StayLemmas.{pinned_stay}
use Rattle.ra_laws.proofs.pins.pinned_stay.Goals as goal

pub returns : goal.returns
returns c = pinned_stay
