use Rattle.ra_model.proofs.MachineLemmas.{machine_costs_fit}
use Rattle.ra_laws.proofs.model.all_machine_costs_fit.Goals as goal

pub returns : goal.returns
returns c = machine_costs_fit
