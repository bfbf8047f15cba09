use Rattle.std.proofs.Common.{◌≡◌, arith, ap, ◌∙◌}
use Rattle.ra_model.specs.Numbers.{machine_count}
use Rattle.ra_moves.specs.Options.{option_count}
use Rattle.ra_moves.proofs.OptionLemmas.{shift_named}
use Rattle.ra_plan.proofs.Bests.{shift_in, bound_fits}
use Rattle.ra_plan.proofs.shifts.best_in_order.Goals as goal
use Rattle.ra_weigh.proofs.CostLaws.{total_now, total_few}

pub loop-option-init : goal.loop-option-init
loop-option-init c = c.none-best.ensures _ _ _ _

pub target-to-requires-clause-named : goal.target-to-requires-clause-named
target-to-requires-clause-named c =
    shift_named _ _ _ _ c.requires.shift (rw (← c.options-count.ensures.value) c.loop-option-test.true)

pub target-to-requires-clause-few : goal.target-to-requires-clause-few
target-to-requires-clause-few c =
    omega (arith, c.divisors.ensures.machines, c.divisors.ensures.sound.well_formed.few_machines)

pub target-to-requires-clause-first : goal.target-to-requires-clause-first
target-to-requires-clause-first c = c.rest-first.ensures.value

pub with_shift-best-requires-clause-world : goal.with_shift-best-requires-clause-world
with_shift-best-requires-clause-world c = c.requires.world

pub with_shift-best-requires-clause-machine : goal.with_shift-best-requires-clause-machine
with_shift-best-requires-clause-machine c =
    rw c.divisors.ensures.machines at c.target-to.ensures.within

pub returns : goal.returns
returns c =
    let world = c.args.world.now in
    let end : c.loop-option.option ≡ c.options-count.result =
    omega (arith, c.loop-option-test.false, c.loop-option.auto.option-end) in
    let all : c.loop-option.option ≡ option_count c.args.words.now (machine_count world.tables)
    c.args.drawing =
    end ∙ c.options-count.ensures.value
    ∙ ap (λ m. option_count c.args.words.now m c.args.drawing)
    c.divisors.ensures.machines in
    rw all at c.loop-option.invariant

pub overflow_add-most : goal.overflow_add-most
overflow_add-most c =
    omega (arith, total_few c.divisors.ensures.sound c.parts.ensures.value, c.from.ensures)

pub overflow_add-most-2 : goal.overflow_add-most-2
overflow_add-most-2 c =
    omega (arith, total_few c.divisors.ensures.sound c.parts.ensures.value, c.from.ensures)

pub with_shift-best-requires-clause-bound : goal.with_shift-best-requires-clause-bound
with_shift-best-requires-clause-bound c =
    let world = c.args.world.now in
    bound_fits world c.args.words.now c.args.drawing c.args.allowed c.loop-option.option
    _ c.loop-option.best c.divisors.ensures.sound
    c.loop-option.invariant
    (omega (arith, total_now c.divisors.ensures.sound c.parts.ensures.value, c.from.ensures)) c.ranges.allowed.fits

pub loop-option-preserved : goal.loop-option-preserved
loop-option-preserved c =
    let world = c.args.world.now in
    c.with_shift-best.ensures _ _ c.args.allowed
    (omega (arith, total_now c.divisors.ensures.sound c.parts.ensures.value, c.from.ensures)) c.loop-option.invariant
    (shift_in world _ _ _ _
    c.divisors.ensures.machines c.requires.shift c.requires.named c.target-to.ensures.value)
