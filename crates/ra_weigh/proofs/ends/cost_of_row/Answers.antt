use Rattle.std.proofs.Common.{arith}
use Rattle.ra_weigh.proofs.ChangeLaws.{row_cost_from}
use Rattle.ra_weigh.proofs.ends.cost_of_row.Goals as goal

pub returns-clause-value : goal.returns-clause-value
returns-clause-value c a usage = grind (arith, row_cost_from)
