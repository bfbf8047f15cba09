use Rattle.ra_weigh.proofs.RowLemmas.{more_here, more_elsewhere}
use Rattle.ra_weigh.proofs.rows.enter_row.Goals as goal

pub returns-then-at-m : goal.returns-then-at-m
returns-then-at-m c = more_here _ _ c.if-at-m.true c.add_row.ensures

pub returns-else-at-m : goal.returns-else-at-m
returns-else-at-m c = more_elsewhere _ _ _ _ c.if-at-m.false
