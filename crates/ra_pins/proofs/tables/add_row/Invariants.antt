-- The first columns have grown by what the process requires.
use Rattle.ra_pins.proofs.TableLemmas.{AddsPart}
use Rattle.ra_pins.proofs.tables.add_row.Given as goal

abbrev pub invariant-loop-r : goal.invariant-loop-r
invariant-loop-r g l = AddsPart l.inst.tables l.columns l.p.0 l.at.0 l.r l.initial.table.items l.table.items
