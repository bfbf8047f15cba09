-- The table keeps its length.
use Rattle.std.proofs.Common.{◌≡◌, length}
use Rattle.ra_sketch.proofs.rows.renew_row.Given as goal

abbrev pub invariant-loop-r : goal.invariant-loop-r
invariant-loop-r l = length l.table.items ≡ length l.fn.table.items
