-- What is available of the two resources of the objective.
use Rattle.std.proofs.Common.{◌≡◌, ◌∙◌, List, arith}
use Rattle.ra_base.specs.declared.ids.Machine.{Machine}
use Rattle.ra_model.specs.Costs.{available}
use Rattle.ra_model.specs.Numbers.{first_of, second_of}
use Rattle.ra_model.proofs.InstanceLemmas.{first_read, second_read, target_read}
use Rattle.ra_check.proofs.CostLaws.{shortfall_from}
use Rattle.ra_check.proofs.balance.shortfall.Goals as goal

pub available-first-requires-clause-resource : goal.available-first-requires-clause-resource
available-first-requires-clause-resource c =
    omega (
      arith,
      first_read c.args.inst.now.tables c.args.b c.balance-objective.result c.balance-objective.ensures,
      c.args.inst.now.well_formed.firsts c.args.b c.requires.objective,
    )

pub available-second-requires-clause-resource : goal.available-second-requires-clause-resource
available-second-requires-clause-resource c =
    omega (
      arith,
      second_read c.args.inst.now.tables c.args.b c.balance-objective.result c.balance-objective.ensures,
      c.args.inst.now.well_formed.seconds c.args.b c.requires.objective,
    )

pub returns : goal.returns
returns c = λ (a : List Machine) sums.
    let i = c.args.inst.now.tables in
    let row = c.balance-objective.result in
    let first : c.available-first.result ≡ available i a c.args.m.0 (first_of i c.args.b) =
    cc (c.available-first.ensures.value a sums, first_read i c.args.b row c.balance-objective.ensures) in
    let second : c.available-second.result ≡ available i a c.args.m.0 (second_of i c.args.b) =
    cc (c.available-second.ensures.value a sums, second_read i c.args.b row c.balance-objective.ensures) in
    c.saturating_sub.ensures ∙ shortfall_from i a c.args.b c.args.m.0
    first second (c.from.ensures ∙ target_read i c.args.b row c.balance-objective.ensures)
