-- The flags are exact, and the loads are added by them.
use Rattle.ra_pins.proofs.PinLemmas.{pins_made}
use Rattle.ra_pins.proofs.pins.Pins.make.Goals as goal

pub returns : goal.returns
returns c = pins_made c.args.inst.now.tables c.args.a0.now.items _ c.requires.fits c.machines.ensures
    c.resources.ensures c.in_ok-flags.ensures c.in_ok-loads.ensures
