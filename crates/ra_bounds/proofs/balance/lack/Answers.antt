-- The two resources of the objective.
use Rattle.std.proofs.Common.{arith, ◌∙◌}
use Rattle.ra_model.proofs.InstanceLemmas.{first_read, second_read}
use Rattle.ra_bounds.proofs.SignLemmas.{read_back}
use Rattle.ra_bounds.proofs.ReadLemmas.{lack_from}
use Rattle.ra_bounds.proofs.balance.lack.Goals as goal

pub spare-first-requires-clause-resource : goal.spare-first-requires-clause-resource
spare-first-requires-clause-resource c =
    omega (
      arith,
      first_read c.args.inst.now.tables c.args.b c.balance-objective.result c.balance-objective.ensures,
      c.args.inst.now.well_formed.firsts c.args.b c.requires.objective,
    )

pub spare-second-requires-clause-resource : goal.spare-second-requires-clause-resource
spare-second-requires-clause-resource c =
    omega (
      arith,
      second_read c.args.inst.now.tables c.args.b c.balance-objective.result c.balance-objective.ensures,
      c.args.inst.now.well_formed.seconds c.args.b c.requires.objective,
    )

pub returns-clause-value : goal.returns-clause-value
returns-clause-value c =
    let first = read_back c.spare-first.result (omega (arith, c.spare-first.ensures.near))
    ∙ c.spare-first.ensures.value in
    let second = read_back c.spare-second.result (omega (arith, c.spare-second.ensures.near))
    ∙ c.spare-second.ensures.value in
    c.shortage.ensures.value ∙ lack_from c.args.inst.now.tables c.args.b c.balance-objective.result _ _
    c.balance-objective.ensures first second
