-- The parts of the sum, and a part that is too much already.
use Rattle.std.proofs.Common.{◌∙◌, ◌+◌, ap, arith}
use Rattle.ra_model.specs.Numbers.{machine_weight_of, way_cost_of}
use Rattle.ra_shift.proofs.FilterLaws.{sum_none, sum_some, sum_load, sum_without_way, sum_parts}
use Rattle.ra_shift.proofs.shift.Shift.sum_below.Goals as goal

pub returns-then-load-bound : goal.returns-then-load-bound
returns-then-load-bound c =
    let shift = c.args.self.now in
    let w = shift.world.now in
    let p = shift.process.0 in
    sum_none w p c.args.to.0 c.args.bound c.load_above-load.result c.if-load-bound.true
    (sum_load w p c.args.to.0 c.load_above-load.result (c.load_above-load.ensures.value p shift.required_are))

pub returns-then-costs-bound : goal.returns-then-costs-bound
returns-then-costs-bound c =
    let shift = c.args.self.now in
    let w = shift.world.now in
    let p = shift.process.0 in
    sum_none w p c.args.to.0 c.args.bound (c.load_above-load.result + c.balance_above.result) c.if-costs-bound.true
    (sum_without_way w p c.args.to.0 c.load_above-load.result c.balance_above.result
    (c.load_above-load.ensures.value p shift.required_are) (c.balance_above.ensures.value p shift.required_are))

pub returns-then-sum-bound : goal.returns-then-sum-bound
returns-then-sum-bound c =
    let shift = c.args.self.now in
    let w = shift.world.now in
    let p = shift.process.0 in
    let to = c.args.to.0 in
    let weight = c.from.ensures ∙ c.machine_weight-weight.ensures
    ∙ ap (λ j. machine_weight_of j) c.instance.ensures.value in
    let cost = c.from-2.ensures ∙ c.way.ensures
    ∙ ap (λ m. way_cost_of w.tables m to) shift.home_is in
    sum_none w p to c.args.bound (c.load_above-load.result + c.balance_above.result + c.from-3.result)
    c.if-sum-bound.true
    (omega (
      arith,
      sum_parts w p to c.from.result c.from-2.result c.from-3.result c.load_above-load.result
          c.balance_above.result weight cost c.from-3.ensures (c.load_above-load.ensures.value p shift.required_are)
          (c.balance_above.ensures.value p shift.required_are),
    ))

pub returns : goal.returns
returns c =
    let shift = c.args.self.now in
    let w = shift.world.now in
    let p = shift.process.0 in
    let to = c.args.to.0 in
    let weight = c.from.ensures ∙ c.machine_weight-weight.ensures
    ∙ ap (λ j. machine_weight_of j) c.instance.ensures.value in
    let cost = c.from-2.ensures ∙ c.way.ensures
    ∙ ap (λ m. way_cost_of w.tables m to) shift.home_is in
    sum_some w p to c.args.bound (c.load_above-load.result + c.balance_above.result + c.from-3.result)
    c.if-sum-bound.false
    (omega (
      arith,
      sum_parts w p to c.from.result c.from-2.result c.from-3.result c.load_above-load.result
          c.balance_above.result weight cost c.from-3.ensures (c.load_above-load.ensures.value p shift.required_are)
          (c.balance_above.ensures.value p shift.required_are),
    ))
