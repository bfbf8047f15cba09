-- The two resources, the target and the weight are those of the objective.
use Rattle.std.proofs.Common.{◌^◌, List, min, ap, ◌∙◌}
use Rattle.ra_base.specs.declared.ids.Machine.{Machine}
use Rattle.ra_world.proofs.CostLaws.{first_within, second_within}
use Rattle.ra_world.proofs.FilterTableLaws.{second_from}
use Rattle.ra_world.proofs.filters.second_number.Goals as goal

pub row_left-first-requires-clause-resource : goal.row_left-first-requires-clause-resource
row_left-first-requires-clause-resource c = first_within c.args.inst.now.tables c.args.b c.balance-objective.result
    c.args.inst.now.well_formed c.requires.objective c.balance-objective.ensures

pub row_left-second-requires-clause-resource : goal.row_left-second-requires-clause-resource
row_left-second-requires-clause-resource c = second_within c.args.inst.now.tables c.args.b c.balance-objective.result
    c.args.inst.now.well_formed c.requires.objective c.balance-objective.ensures

pub returns : goal.returns
returns c = λ (a : List Machine) usage.
    c.capped_excess.ensures ∙ ap (λ x. min x (2 ^ 30))
    (second_from c.args.inst.now.tables a c.args.b c.args.inst.now.well_formed
    c.requires.objective usage c.balance-objective.ensures c.row_left-first.ensures.value
    c.row_left-second.ensures.value c.from.ensures)
