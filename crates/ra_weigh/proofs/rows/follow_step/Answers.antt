-- What enters, and then what leaves.
use Rattle.std.proofs.Common.{arith}
use Rattle.ra_weigh.proofs.RowLemmas.{enough_left, followed}
use Rattle.ra_weigh.proofs.rows.follow_step.Goals as goal

pub leave_row-requires-clause-enough : goal.leave_row-requires-clause-enough
leave_row-requires-clause-enough c = enough_left c.args.amounts.now c.requires.able c.enter_row.ensures

pub returns : goal.returns
returns c = grind (arith, followed)
