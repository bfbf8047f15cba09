-- One more column has grown.
use Rattle.std.proofs.Common.{◌≡◌, ◌<◌, refl, arith}
use Rattle.ra_model.specs.Numbers.{resource_count}
use Rattle.ra_pins.proofs.TableLemmas.{part_none, part_write, part_place, part_fits, part_all}
use Rattle.ra_pins.proofs.tables.add_row.Goals as goal

pub loop-r-init : goal.loop-r-init
loop-r-init g c = part_none c.args.inst.now.tables c.args.columns c.args.p.0 c.args.at.0 c.args.table.now.items

pub add_to_cell-requires-clause-place : goal.add_to_cell-requires-clause-place
add_to_cell-requires-clause-place g c =
    let column : c.loop-r.r < resource_count c.args.inst.now.tables = omega arith in
    part_place c.args.inst.now.tables c.args.columns c.args.p.0 c.args.at.0 c.loop-r.r c.resources-width.result
    c.args.table.now.items c.loop-r.table.items c.resources-width.ensures c.requires.grid c.requires.at column
    c.loop-r.invariant

pub add_to_cell-requires-clause-fits : goal.add_to_cell-requires-clause-fits
add_to_cell-requires-clause-fits g c =
    let column : c.loop-r.r < resource_count c.args.inst.now.tables = omega arith in
    part_fits c.args.inst.now.tables c.args.columns c.args.p.0 c.args.at.0 c.loop-r.r c.resources-width.result
    c.amount_in-amount.result c.args.table.now.items c.loop-r.table.items c.resources-width.ensures
    c.amount_in-amount.ensures column c.args.inst.now.small c.requires.below c.loop-r.invariant

pub loop-r-preserved : goal.loop-r-preserved
loop-r-preserved g c =
    let column : c.loop-r.r < resource_count c.args.inst.now.tables = omega arith in
    part_write c.args.inst.now.tables c.args.columns c.args.p.0 c.args.at.0 c.loop-r.r c.resources-width.result
    c.amount_in-amount.result c.args.table.now.items c.loop-r.table.items c.add_to_cell.new.table.items
    c.resources-width.ensures c.amount_in-amount.ensures column
    (part_place c.args.inst.now.tables c.args.columns c.args.p.0 c.args.at.0 c.loop-r.r
    (resource_count c.args.inst.now.tables) c.args.table.now.items c.loop-r.table.items refl c.requires.grid
    c.requires.at column c.loop-r.invariant) c.add_to_cell.ensures c.loop-r.invariant

pub returns : goal.returns
returns g c =
    let all : c.loop-r.r ≡ resource_count c.args.inst.now.tables =
    omega (arith, c.resources-width.ensures, c.loop-r-test.false, c.loop-r.auto.r-end) in
    part_all c.args.inst.now.tables c.args.columns c.args.p.0 c.args.at.0 c.loop-r.r c.args.table.now.items
    c.loop-r.table.items all c.loop-r.invariant
