-- The costs of the row are those of the machine.
use Rattle.std.proofs.Common.{arith}
use Rattle.std.proofs.lemmas.Grind.{common_steps}
use Rattle.ra_model.proofs.MachineLemmas.{row_load_same, row_balance_same}
use Rattle.ra_edit.proofs.costs.costs_on.Goals as goal

pub returns-clause-costs : goal.returns-clause-costs
returns-clause-costs c = λ e same has. grind (arith, common_steps, row_load_same, row_balance_same)
