use Rattle.test_workers.proofs.StepLemmas.{step_legal}
use Rattle.test_workers.proofs.laws.step_keeps_legal.Goals as goal

pub returns : goal.returns
returns c = step_legal
