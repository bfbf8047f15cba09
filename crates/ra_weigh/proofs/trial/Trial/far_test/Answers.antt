-- The neighbourhood has some of the service, or none.
use Rattle.std.proofs.Common.{arith}
use Rattle.ra_weigh.proofs.StepLemmas.{need_there}
use Rattle.ra_weigh.proofs.TestLemmas.{far_some, far_none}
use Rattle.ra_weigh.proofs.trial.Trial.far_test.Goals as goal

pub count_after-requires : goal.count_after-requires
count_after-requires c = grind (arith, need_there)

pub returns-then-count_after-eq0 : goal.returns-then-count_after-eq0
returns-then-count_after-eq0 c = grind (arith, far_some)

pub returns-else-count_after-eq0 : goal.returns-else-count_after-eq0
returns-else-count_after-eq0 c = grind (arith, far_none)
