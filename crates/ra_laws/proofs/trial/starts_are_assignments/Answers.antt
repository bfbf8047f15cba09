use Rattle.ra_trial.proofs.StartFeasible.{start_fits}
use Rattle.ra_trial.proofs.TrialNumbers.{has_numbers}
use Rattle.ra_laws.proofs.trial.starts_are_assignments.Goals as goal

pub returns : goal.returns
returns c = λ g i is. start_fits g i (has_numbers g i is)
