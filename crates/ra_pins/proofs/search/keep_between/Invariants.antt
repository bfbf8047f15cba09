-- Each cell is what the processes so far require of the transient resources.
use Rattle.ra_pins.specs.Loads.{IsTallyTable, row_share}
use Rattle.ra_pins.specs.declared.tables.Columns.TheVariants.{Transient}
use Rattle.ra_pins.proofs.search.keep_between.Given as goal

abbrev pub invariant-loop-p : goal.invariant-loop-p
invariant-loop-p g l = IsTallyTable l.inst.tables l.p (row_share l.inst.tables Transient) l.a0.items l.table.items
