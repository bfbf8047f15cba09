-- The table begins as zeros, and each flagged process adds its row.
use Rattle.std.proofs.Common.{◌≤◌, ◌∙◌, sym, arith}
use Rattle.ra_pins.specs.PinLists.{flag_at}
use Rattle.ra_pins.proofs.TableLemmas.{tally_start, tally_flagged, tally_free, tally_below, flagged_share_small}
use Rattle.ra_pins.proofs.MarkLemmas.{flag_read}
use Rattle.ra_pins.proofs.pins.add_loads.Goals as goal
use Rattle.ra_pins.proofs.pins.add_loads.Goals.{then-get, else-get}

pub loop-p-init : goal.loop-p-init
loop-p-init g c =
    tally_start c.args.inst.now.tables _
    c.args.a0.now.items c.args.table.now.items c.requires.zeros

pub add_row-requires-clause-grid : goal.add_row-requires-clause-grid
add_row-requires-clause-grid g c = c.loop-p.invariant.grid

pub add_row-requires-clause-below : goal.add_row-requires-clause-below
add_row-requires-clause-below g c =
    let few : c.loop-p.p ≤ 50000 = omega (arith, c.args.inst.now.well_formed.few_processes) in
    tally_below c.args.inst.now.tables c.loop-p.p
    _ c.args.a0.now.items c.loop-p.table.items
    (flagged_share_small c.args.inst.now.tables (flag_at c.args.flags.now.items) c.args.inst.now.small) few
    c.loop-p.invariant

pub loop-p-preserved : goal.loop-p-preserved
loop-p-preserved g c =
    let read = flag_read c.args.flags.now.items c.loop-p.p c.get.result
    (omega (arith, c.requires.flags, c.processes-p-end.ensures)) c.get.ensures in
    elim c.if-get.branch [
      | then-get w ↦
          rw w.table-is
          (tally_flagged c.args.inst.now.tables _ c.loop-p.p w.machine_of-at.result.0
          c.args.a0.now.items c.loop-p.table.items w.add_row.new.table.items w.machine_of-at.ensures
          (sym read ∙ w.if-get.true) c.loop-p.invariant w.add_row.ensures)
      | else-get w ↦
          rw w.table-is
          (tally_free c.args.inst.now.tables _ c.loop-p.p c.args.a0.now.items
          c.loop-p.table.items (sym read ∙ w.if-get.false) c.loop-p.invariant)
    ]
