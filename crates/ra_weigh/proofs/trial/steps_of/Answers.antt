-- As many steps as there are.
use Rattle.std.proofs.Common.{arith}
use Rattle.ra_weigh.proofs.StepLemmas.{three_read}
use Rattle.ra_weigh.proofs.trial.steps_of.Goals as goal

pub returns-then-count-eq1 : goal.returns-then-count-eq1
returns-then-count-eq1 c = grind (arith, three_read)

pub returns-then-count-eq2 : goal.returns-then-count-eq2
returns-then-count-eq2 c = grind (arith, three_read)

pub returns : goal.returns
returns c = grind (arith, three_read)
