-- The two resources and the target are those of the objective.
use Rattle.std.proofs.Common.{◌∙◌, ◌*◌, ap₂, arith}
use Rattle.ra_world.proofs.CostLaws.{first_within, second_within}
use Rattle.ra_shift.proofs.FilterReads.{required_first, required_second, target_read}
use Rattle.ra_shift.proofs.filter.asked_of.Goals as goal

pub bounds-required-objective : goal.bounds-required-objective
bounds-required-objective c =
    let limits = c.args.inst.now.well_formed in
    omega (
      arith,
      first_within c.args.inst.now.tables c.args.b c.balance-objective.result limits c.requires.objective
          c.balance-objective.ensures,
      c.requires.width,
    )

pub bounds-required-objective-2 : goal.bounds-required-objective-2
bounds-required-objective-2 c =
    let limits = c.args.inst.now.well_formed in
    omega (
      arith,
      second_within c.args.inst.now.tables c.args.b c.balance-objective.result limits c.requires.objective
          c.balance-objective.ensures,
      c.requires.width,
    )

pub returns : goal.returns
returns c = λ p are.
    let i = c.args.inst.now.tables in
    let is = c.balance-objective.ensures in
    record {
      wanted = ap₂ (λ x y. x * y) (c.from.ensures ∙ target_read i c.args.b _ is)
          (c.from-2.ensures ∙ required_first i p c.args.b _ _ c.args.inst.now.well_formed c.requires.objective is are);
      taken = c.from-3.ensures ∙ required_second i p c.args.b _ _ c.args.inst.now.well_formed c.requires.objective is are;
    }
