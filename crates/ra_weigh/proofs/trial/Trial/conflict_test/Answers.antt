-- More than one of the service is there, or not.
use Rattle.std.proofs.Common.{arith}
use Rattle.ra_weigh.proofs.TestLemmas.{conflict_some, conflict_none}
use Rattle.ra_weigh.proofs.trial.Trial.conflict_test.Goals as goal

pub returns-then-count_after-gt1 : goal.returns-then-count_after-gt1
returns-then-count_after-gt1 c = grind (arith, conflict_some)

pub returns-else-count_after-gt1 : goal.returns-else-count_after-gt1
returns-else-count_after-gt1 c = grind (arith, conflict_none)
