use Rattle.test_workers.proofs.StepLemmas.{step_within}
use Rattle.test_workers.proofs.laws.step_keeps_places.Goals as goal

pub returns : goal.returns
returns c = step_within
