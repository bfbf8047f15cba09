use Rattle.std.proofs.Common.{arith}
use Rattle.ra_weigh.proofs.ChangeLaws.{row_cost_is, row_cost_few}
use Rattle.ra_weigh.proofs.ends.cost_now.Goals as goal

pub overflow_add-result : goal.overflow_add-result
overflow_add-result c = grind (arith, row_cost_few)

pub returns-clause-value : goal.returns-clause-value
returns-clause-value c = row_cost_is _ _ _ c.machine_load.ensures.value c.machine_balance.ensures.value

pub returns-clause-few : goal.returns-clause-few
returns-clause-few c = grind (arith, row_cost_few)
