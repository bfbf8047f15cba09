-- The first numbers are less.
use Rattle.ra_weigh.proofs.RowLemmas.{LessTo}
use Rattle.ra_weigh.proofs.rows.take_row.Given as goal

abbrev pub invariant-loop-r : goal.invariant-loop-r
invariant-loop-r l = LessTo l.r l.initial.row l.row l.amounts
