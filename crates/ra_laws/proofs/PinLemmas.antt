-- Further rounds than there are processes pin nothing more.
use Rattle.ra_pins.specs.Pinned.{is_pinned}
use Rattle.ra_laws.specs.PinLaws.{RoundsEnd}
use Rattle.ra_pins.proofs.RoundLemmas.{pinned_closed, rounds_least}

pub rounds_end : RoundsEnd
rounds_end i a0 n p h e = (rounds_least i a0 (is_pinned i a0) n (pinned_closed i a0)).each p h e
