-- The two resources, the target and the weight are those of the objective.
use Rattle.std.proofs.Common.{◌∙◌, ◌*◌, ℕ, ap}
use Rattle.ra_world.proofs.CostLaws.{balance_share_from, first_within, second_within}
use Rattle.ra_world.proofs.costs.balance_share.Goals as goal

pub row_left-first-requires-clause-resource : goal.row_left-first-requires-clause-resource
row_left-first-requires-clause-resource c = first_within c.args.inst.now.tables c.args.b c.balance-objective.result
    c.args.inst.now.well_formed c.requires.objective c.balance-objective.ensures

pub row_left-second-requires-clause-resource : goal.row_left-second-requires-clause-resource
row_left-second-requires-clause-resource c = second_within c.args.inst.now.tables c.args.b c.balance-objective.result
    c.args.inst.now.well_formed c.requires.objective c.balance-objective.ensures

pub returns-clause-value : goal.returns-clause-value
returns-clause-value c =
    ap (λ (x : ℕ). c.from-2.result * x) (c.from-3.ensures ∙ c.saturating_sub-lack.ensures)
    ∙ (balance_share_from c.args.inst.now.tables c.args.m.0 _ c.args.b
    c.balance-objective.result c.row_left-first.result c.row_left-second.result c.from.result c.from-2.result
    c.balance-objective.ensures c.row_left-first.ensures.value c.row_left-second.ensures.value c.from.ensures
    c.from-2.ensures)
