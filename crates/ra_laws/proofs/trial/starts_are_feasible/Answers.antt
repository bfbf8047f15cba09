use Rattle.ra_trial.proofs.StartFeasible.{start_feasible}
use Rattle.ra_trial.proofs.TrialNumbers.{has_numbers}
use Rattle.ra_laws.proofs.trial.starts_are_feasible.Goals as goal

pub returns : goal.returns
returns c = λ g i is. start_feasible g i (has_numbers g i is)
