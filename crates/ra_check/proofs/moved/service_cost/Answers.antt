-- The greatest of the numbers, times the weight.
use Rattle.std.proofs.Common.{◌∙◌}
use Rattle.ra_check.proofs.MovedLaws.{service_cost_from}
use Rattle.ra_check.proofs.moved.service_cost.Goals as goal

pub returns-clause-value : goal.returns-clause-value
returns-clause-value c = service_cost_from
    c.count_moved.ensures.counted
    c.count_moved.ensures.slots (c.from.ensures ∙ c.service_weight.ensures) (c.from-2.ensures ∙ c.most-most.ensures)
