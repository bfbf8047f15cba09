-- The load of the pinned processes is a part of the initial use, and so it is small.
use Rattle.std.proofs.Common.{arith}
use Rattle.ra_bounds.proofs.PinnedLemmas.{excess_fits}
use Rattle.ra_bounds.proofs.pinned.excess.Goals as goal

pub returns-clause-fits : goal.returns-clause-fits
returns-clause-fits c = excess_fits c.args.pins.now c.args.inst.now.tables c.load-load.result _ c.args.m.0 c.args.r.0
    c.args.inst.now.well_formed c.args.inst.now.small c.requires.pins (c.load-load.ensures.value c.args.inst.now.tables)
    (omega (arith, c.saturating_sub.ensures))
