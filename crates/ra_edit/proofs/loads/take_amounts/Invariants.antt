-- The first columns have shrunk.
use Rattle.std.proofs.Common.{slice_index}
use Rattle.ra_edit.proofs.LoadLaws.{Part}
use Rattle.ra_edit.proofs.loads.take_amounts.Given as goal

abbrev pub invariant-loop-r : goal.invariant-loop-r
invariant-loop-r l = Part l.fn.width l.r l.fn.at.0 (slice_index l.fn.amounts) l.table.items l.fn.table.items
