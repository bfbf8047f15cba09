use Rattle.ra_model.proofs.MachineLemmas.{balance_by_machine}
use Rattle.ra_laws.proofs.model.balance_is_by_machine.Goals as goal

pub returns : goal.returns
returns c = balance_by_machine
