-- The lists as they begin.
use Rattle.ra_pins.proofs.SearchLemmas.{start_made}
use Rattle.ra_pins.proofs.search.Search.make.Goals as goal

pub returns : goal.returns
returns c = start_made c.args.inst.now.tables c.args.a0.now.items _ c.processes-processes.result
    c.machines-machines.result c.services.result c.args.inst.now.well_formed c.processes-processes.ensures
    c.machines-machines.ensures c.services.ensures c.in_ok-flags.ensures c.in_ok-places.ensures c.in_ok-fuller.ensures
    c.in_ok-touched.ensures c.in_ok-marks.ensures c.in_ok-kept.ensures
