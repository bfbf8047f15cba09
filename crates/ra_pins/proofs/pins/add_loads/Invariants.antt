-- Each cell is what the flagged processes so far require.
use Rattle.ra_pins.specs.Pinned.{flagged_share}
use Rattle.ra_pins.specs.PinLists.{flag_at}
use Rattle.ra_pins.specs.Loads.{IsTallyTable}
use Rattle.ra_pins.proofs.pins.add_loads.Given as goal

abbrev pub invariant-loop-p : goal.invariant-loop-p
invariant-loop-p g l =
    IsTallyTable l.inst.tables l.p (flagged_share l.inst.tables (flag_at l.flags.items)) l.a0.items l.table.items
