-- The cost now with what is added, less what is taken away.
use Rattle.std.proofs.Common.{arith}
use Rattle.ra_weigh.proofs.CostLaws.{total_few, service_few, cost_is, cost_least, found_below, none_below}
use Rattle.ra_weigh.proofs.costs.cost_after_move.Goals as goal

pub overflow_add-rows : goal.overflow_add-rows
overflow_add-rows c = grind (arith, total_few)

pub overflow_add-taken : goal.overflow_add-taken
overflow_add-taken c = grind (arith, service_few)

pub overflow_add-taken-2 : goal.overflow_add-taken-2
overflow_add-taken-2 c = grind (arith, service_few)

pub is_high-requires : goal.is_high-requires
is_high-requires c = grind (arith, total_few)

pub returns-then-is_high : goal.returns-then-is_high
returns-then-is_high c =
    let ends = c.change_at_ends-ends.ensures in
    none_below _ _ (cost_least c.parts-parts.ensures.sound c.parts-parts.ensures.value c.requires.moves
    ends.taken c.requires.ways c.change_at_ends-ends.result.added 0 c.args.bound (omega (arith, ends.added))
    (omega arith)
    (omega (arith, c.is_high.ensures.0 c.if-is_high.true)))

pub overflow_add-added : goal.overflow_add-added
overflow_add-added c = grind (arith, total_few)

pub is_high-requires-2 : goal.is_high-requires-2
is_high-requires-2 c = grind (arith, total_few)

pub returns-then-is_high-2 : goal.returns-then-is_high-2
returns-then-is_high-2 c =
    let ends = c.change_at_ends-ends.ensures in
    none_below _ _ (cost_least c.parts-parts.ensures.sound c.parts-parts.ensures.value c.requires.moves
    ends.taken c.requires.ways c.change_at_ends-ends.result.added c.args.ways.now.added c.args.bound
    (omega (arith, ends.added)) (omega arith)
    (omega (arith, c.is_high-2.ensures.0 c.if-is_high-2.true)))

pub overflow_add-cost : goal.overflow_add-cost
overflow_add-cost c = grind (arith, total_few)

pub overflow_sub-cost : goal.overflow_sub-cost
overflow_sub-cost c =
    let ends = c.change_at_ends-ends.ensures in
    omega (
      arith,
      cost_is c.parts-parts.ensures.sound c.parts-parts.ensures.value c.requires.moves ends.taken
          c.requires.ways ends.added c.service_after.ensures.value,
    )

pub returns-then-cost-bound : goal.returns-then-cost-bound
returns-then-cost-bound c =
    let ends = c.change_at_ends-ends.ensures in
    none_below _ _ (omega (
      arith,
      c.if-cost-bound.true,
      cost_is c.parts-parts.ensures.sound c.parts-parts.ensures.value c.requires.moves ends.taken
          c.requires.ways ends.added c.service_after.ensures.value,
    ))

pub returns : goal.returns
returns c =
    let ends = c.change_at_ends-ends.ensures in
    found_below _ _ _ (omega (
      arith,
      cost_is c.parts-parts.ensures.sound c.parts-parts.ensures.value c.requires.moves ends.taken
          c.requires.ways ends.added c.service_after.ensures.value,
    )) (omega (arith, c.if-cost-bound.false))
