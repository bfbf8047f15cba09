-- The two resources, the target and the weight are those of the objective.
use Rattle.std.proofs.Common.{◌∙◌, ◌*◌, ℕ, ap}
use Rattle.ra_model.specs.Costs.{available}
use Rattle.ra_model.proofs.InstanceLemmas.{first_read, second_read}
use Rattle.ra_world.proofs.CostLaws.{first_within, second_within}
use Rattle.ra_shift.proofs.FilterReads.{balance_more_is, target_read, weight_read}
use Rattle.ra_shift.proofs.filter.balance_more.Goals as goal

pub left_of-first-requires-clause-resource : goal.left_of-first-requires-clause-resource
left_of-first-requires-clause-resource c = first_within c.args.inst.now.tables c.args.b c.balance-objective.result
    c.args.inst.now.well_formed c.requires.objective c.balance-objective.ensures

pub left_of-second-requires-clause-resource : goal.left_of-second-requires-clause-resource
left_of-second-requires-clause-resource c = second_within c.args.inst.now.tables c.args.b c.balance-objective.result
    c.args.inst.now.well_formed c.requires.objective c.balance-objective.ensures

pub returns-clause-value : goal.returns-clause-value
returns-clause-value c = λ a p row are.
    let i = c.args.inst.now.tables in
    let is = c.balance-objective.ensures in
    ap (λ (x : ℕ). c.from-2.result * x) (c.from-3.ensures ∙ c.lack_more-more.ensures)
    ∙ balance_more_is i a p c.args.m.0 c.args.b _ _ _ _ _
    (c.from-2.ensures ∙ weight_read i c.args.b _ is) (c.from.ensures ∙ target_read i c.args.b _ is)
    (c.left_of-first.ensures.value a row ∙ ap (available i a c.args.m.0) (first_read i c.args.b _ is))
    (c.left_of-second.ensures.value a row ∙ ap (available i a c.args.m.0) (second_read i c.args.b _ is))
    (c.asked_of-asked.ensures p are)
