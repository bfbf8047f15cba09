-- What the process requires are its requirements.
use Rattle.ra_shift.proofs.shift.Shift.asks.Goals as goal

pub returns : goal.returns
returns c =
    let shift = c.args.self.now in
    (rw c.instance.ensures.value at c.asks_of.ensures) shift.process.0 shift.required_are
