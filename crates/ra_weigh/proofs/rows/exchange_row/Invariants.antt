-- The first numbers have followed.
use Rattle.ra_weigh.proofs.RowLemmas.{ExchangedTo}
use Rattle.ra_weigh.proofs.rows.exchange_row.Given as goal

abbrev pub invariant-loop-r : goal.invariant-loop-r
invariant-loop-r l = ExchangedTo l.r l.used l.row l.come l.gone
