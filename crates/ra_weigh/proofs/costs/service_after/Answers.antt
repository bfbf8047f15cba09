use Rattle.std.proofs.Common.{arith, ◌∙◌, refl}
use Rattle.ra_weigh.proofs.CostLaws.{counts_of_cells, count_change, count_apart, greatest_then, service_is}
use Rattle.ra_weigh.proofs.costs.service_after.Goals as goal

pub greatest_after-after-requires-clause-first : goal.greatest_after-after-requires-clause-first
greatest_after-after-requires-clause-first c = grind (arith, count_change, counts_of_cells)

pub greatest_after-after-requires-clause-second : goal.greatest_after-after-requires-clause-second
greatest_after-after-requires-clause-second c = grind (arith, count_change, counts_of_cells)

pub greatest_after-after-requires-clause-third : goal.greatest_after-after-requires-clause-third
greatest_after-after-requires-clause-third c = grind (arith, count_change, counts_of_cells)

pub greatest_after-after-requires-clause-first_second : goal.greatest_after-after-requires-clause-first_second
greatest_after-after-requires-clause-first_second c = grind (arith, count_apart)

pub greatest_after-after-requires-clause-first_third : goal.greatest_after-after-requires-clause-first_third
greatest_after-after-requires-clause-first_third c = grind (arith, count_apart)

pub greatest_after-after-requires-clause-second_third : goal.greatest_after-after-requires-clause-second_third
greatest_after-after-requires-clause-second_third c = grind (arith, count_apart)

pub returns-clause-value : goal.returns-clause-value
returns-clause-value c =
    service_is _
    c.from.result c.from-2.result _ refl
    (c.from.ensures ∙ (rw c.instance.ensures.value at c.service_weight.ensures))
    (c.from-2.ensures ∙ c.greatest_after-after.ensures.value
    ∙ greatest_then _ _ _ c.requires (counts_of_cells _ _ c.cells.ensures.stand
    c.greatest-greatest.ensures) c.counts_of-counts.ensures)
