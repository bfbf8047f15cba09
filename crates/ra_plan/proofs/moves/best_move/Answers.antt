use Rattle.std.proofs.Common.{◌≡◌, ◌+◌, arith, length, ap, ◌∙◌, subst}
use Rattle.ra_model.specs.Numbers.{machine_count}
use Rattle.ra_moves.specs.MoveSteps.{step_count}
use Rattle.ra_moves.specs.Options.{kind_of, option_count}
use Rattle.ra_plan.specs.Choosing.{cost_to_beat}
use Rattle.ra_moves.specs.Judging.{IsMoveBelow}
use Rattle.ra_plan.proofs.OptionSizes.{option_length}
use Rattle.ra_plan.proofs.Bests.{option_in}
use Rattle.ra_plan.proofs.moves.best_move.Goals as goal
use Rattle.ra_weigh.proofs.CostLaws.{total_now, total_few}
use Rattle.ra_model.specs.Situations.{cost_at}

pub loop-option-init : goal.loop-option-init
loop-option-init g c = record { best = c.requires.first; counted = omega arith }

pub loop-option-preserved : goal.loop-option-preserved
loop-option-preserved g c =
    let world = c.args.world.now in
    let option = rw c.assignment.ensures.value at c.resolve_by-mv.ensures.option in
    let size : length c.resolve_by-mv.result.steps ≡ step_count (kind_of c.args.words.now) =
    rw option (option_length _ _ _ _ _) in
    let reads = rw size at c.cost_below-found.ensures.counted in
    let most : c.parts.result.total + c.from.result + 1 ≡ cost_at world + c.args.allowed + 1 =
    omega (arith, total_now c.divisors-by.ensures.sound c.parts.ensures.value, c.from.ensures) in
    record {
      best = c.or_found-best.ensures.best world _ _ c.args.allowed _ c.loop-option.invariant.best
          (option_in world _ _ _ _ _ c.divisors-by.ensures.machines option)
          (subst (λ b. IsMoveBelow world c.resolve_by-mv.result.steps b c.cost_below-found.result)
          (c.bound.ensures ∙ ap (cost_to_beat c.loop-option.best.cost) most)
          c.cost_below-found.ensures.below);
      counted = omega (arith, reads, c.loop-option.invariant.counted);
    }

pub returns : goal.returns
returns g c =
    let world = c.args.world.now in
    let end : c.loop-option.option ≡ c.options-count.result =
    omega (arith, c.loop-option-test.false, c.loop-option.auto.option-end, c.options-count.ensures.some) in
    let all : c.loop-option.option ≡ option_count c.args.words.now (machine_count world.tables)
    c.args.drawing =
    end ∙ c.options-count.ensures.value
    ∙ ap (λ m. option_count c.args.words.now m c.args.drawing)
    c.divisors-by.ensures.machines in
    record { best = rw all at c.loop-option.invariant.best; counted = rw all at c.loop-option.invariant.counted }

pub overflow_add-most : goal.overflow_add-most
overflow_add-most g c =
    omega (arith, total_few c.divisors-by.ensures.sound c.parts.ensures.value, c.from.ensures)

pub overflow_add-most-2 : goal.overflow_add-most-2
overflow_add-most-2 g c =
    omega (arith, total_few c.divisors-by.ensures.sound c.parts.ensures.value, c.from.ensures)
