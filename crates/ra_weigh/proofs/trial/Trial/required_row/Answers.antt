-- The numbers are those that were read.
use Rattle.std.proofs.Common.{arith}
use Rattle.ra_weigh.proofs.StepLemmas.{required_there}
use Rattle.ra_weigh.proofs.trial.Trial.required_row.Goals as goal

pub returns-clause-each : goal.returns-clause-each
returns-clause-each c = λ r within. grind (arith, required_there)
