-- The three ways a look ends: the process needn't, it has gone on, or it is flagged.
use Rattle.std.proofs.Common.{◌≤◌, ◌<◌, sym, refl, arith}
use Rattle.ra_model.specs.Numbers.{machine_count}
use Rattle.ra_pins.proofs.TableLemmas.{kept_below}
use Rattle.ra_pins.proofs.SearchLemmas.{look_rests, look_walks, look_flags}
use Rattle.ra_pins.proofs.looks.look.Goals as goal

pub returns-then-rests : goal.returns-then-rests
returns-then-rests g c = look_rests c.args.inst.now.tables c.args.a0.now.items c.args.search.now c.args.t c.args.p.0
    c.requires.search (c.rests.ensures.rests c.if-rests.true c.args.a0.now.items (sym c.machine_of-home.ensures))

pub returns-then-walk-machines : goal.returns-then-walk-machines
returns-then-walk-machines g c =
    let few : c.walk.result < machine_count c.args.inst.now.tables =
    omega (arith, c.machines.ensures, c.if-walk-machines.true) in
    look_walks c.walk.ensures c.args.t c.requires.search c.requires.process few

pub flag-requires-clause-below : goal.flag-requires-clause-below
flag-requires-clause-below g c =
    kept_below c.args.inst.now.tables c.args.a0.now.items _
    c.walk.new.search.kept.items c.args.inst.now.well_formed c.args.inst.now.small c.walk.ensures.search.kept

pub returns : goal.returns
returns g c =
    let end : machine_count c.args.inst.now.tables ≤ c.walk.result =
    omega (arith, c.machines.ensures, c.if-walk-machines.false) in
    look_flags c.args.t c.args.inst.now.well_formed c.requires.fits c.requires.search c.requires.process
    c.machine_of-home.ensures refl end
    (c.rests.ensures.free c.if-rests.false) c.walk.ensures c.flag.ensures
