-- The first columns have grown by the requirements of the process.
use Rattle.ra_check.proofs.TableLaws.{AddsPart}
use Rattle.ra_check.proofs.usage.add_row.Given as goal

abbrev pub invariant-loop-r : goal.invariant-loop-r
invariant-loop-r g l = AddsPart l.inst.tables l.p.0 l.at.0 l.r l.initial.table.items l.table.items
