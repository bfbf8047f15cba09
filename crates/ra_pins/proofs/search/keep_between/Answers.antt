-- The table begins as zeros, and each process adds its row.
use Rattle.std.proofs.Common.{◌≤◌, arith}
use Rattle.ra_pins.specs.declared.tables.Columns.TheVariants.{Transient}
use Rattle.ra_pins.proofs.TableLemmas.{tally_start, tally_row, tally_below, row_share_small}
use Rattle.ra_pins.proofs.search.keep_between.Goals as goal

pub loop-p-init : goal.loop-p-init
loop-p-init g c = tally_start c.args.inst.now.tables _ c.args.a0.now.items
    c.args.table.now.items c.requires.zeros

pub add_row-requires-clause-grid : goal.add_row-requires-clause-grid
add_row-requires-clause-grid g c = c.loop-p.invariant.grid

pub add_row-requires-clause-below : goal.add_row-requires-clause-below
add_row-requires-clause-below g c =
    let few : c.loop-p.p ≤ 50000 = omega (arith, c.args.inst.now.well_formed.few_processes) in
    tally_below c.args.inst.now.tables c.loop-p.p _ c.args.a0.now.items
    c.loop-p.table.items (row_share_small c.args.inst.now.tables Transient c.args.inst.now.small) few
    c.loop-p.invariant

pub loop-p-preserved : goal.loop-p-preserved
loop-p-preserved g c = tally_row c.args.inst.now.tables Transient c.loop-p.p c.machine_of-at.result.0
    c.args.a0.now.items c.loop-p.table.items c.add_row.new.table.items c.machine_of-at.ensures c.loop-p.invariant
    c.add_row.ensures
