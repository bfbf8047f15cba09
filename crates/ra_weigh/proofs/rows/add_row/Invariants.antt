-- The first numbers are more.
use Rattle.ra_weigh.proofs.RowLemmas.{MoreTo}
use Rattle.ra_weigh.proofs.rows.add_row.Given as goal

abbrev pub invariant-loop-r : goal.invariant-loop-r
invariant-loop-r l = MoreTo l.r l.initial.row l.row l.amounts
