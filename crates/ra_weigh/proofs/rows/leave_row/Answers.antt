use Rattle.std.proofs.Common.{arith}
use Rattle.ra_weigh.proofs.RowLemmas.{more_here, more_elsewhere, enough_here}
use Rattle.ra_weigh.proofs.rows.leave_row.Goals as goal

pub take_row-requires-clause-enough : goal.take_row-requires-clause-enough
take_row-requires-clause-enough c r within = grind (arith, enough_here)

pub returns-then-at-m : goal.returns-then-at-m
returns-then-at-m c = more_here _ _ c.if-at-m.true c.take_row.ensures

pub returns-else-at-m : goal.returns-else-at-m
returns-else-at-m c = more_elsewhere _ _ _ _ c.if-at-m.false
