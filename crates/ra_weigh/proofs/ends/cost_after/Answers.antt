use Rattle.std.proofs.Common.{arith}
use Rattle.ra_weigh.proofs.ends.cost_after.Goals as goal

pub returns-clause-value : goal.returns-clause-value
returns-clause-value c = grind arith
