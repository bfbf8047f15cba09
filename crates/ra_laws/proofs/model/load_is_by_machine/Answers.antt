use Rattle.ra_model.proofs.MachineLemmas.{load_by_machine}
use Rattle.ra_laws.proofs.model.load_is_by_machine.Goals as goal

pub returns : goal.returns
returns c = load_by_machine
