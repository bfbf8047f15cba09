-- The options of a window are its machines.
use Rattle.std.proofs.Common.{subst, sym, arith}
use Rattle.ra_base.specs.declared.causes.Drawing.TheVariants.{Two}
use Rattle.ra_model.specs.Numbers.{machine_count}
use Rattle.ra_plan.specs.Choosing.{IsBest}
use Rattle.ra_plan.proofs.OptionSizes.{window_count}
use Rattle.ra_plan.proofs.Marked.{window_of}
use Rattle.ra_plan.proofs.shifts.best_in_window.Goals as goal
use Rattle.ra_weigh.proofs.CostLaws.{total_now, total_few}

pub overflow_add-most : goal.overflow_add-most
overflow_add-most c =
    omega (arith, total_few c.divisors.ensures.sound c.parts.ensures.value, c.from.ensures)

pub overflow_add-most-2 : goal.overflow_add-most-2
overflow_add-most-2 c =
    omega (arith, total_few c.divisors.ensures.sound c.parts.ensures.value, c.from.ensures)

pub marks-requires-clause-first : goal.marks-requires-clause-first
marks-requires-clause-first c = rw c.requires.world (rw (← c.divisors.ensures.machines) c.rest-first.ensures.below)

pub marks-requires-clause-bound : goal.marks-requires-clause-bound
marks-requires-clause-bound c =
    omega (arith, total_few c.divisors.ensures.sound c.parts.ensures.value, c.from.ensures)

pub best_marked-requires-clause-first : goal.best_marked-requires-clause-first
best_marked-requires-clause-first c = rw (← c.divisors.ensures.machines) c.rest-first.ensures.below

pub best_marked-requires-clause-most : goal.best_marked-requires-clause-most
best_marked-requires-clause-most c =
    omega (arith, total_few c.divisors.ensures.sound c.parts.ensures.value, c.from.ensures)

pub best_marked-requires-clause-marked : goal.best_marked-requires-clause-marked
best_marked-requires-clause-marked c = rw c.requires.world at c.in-Some.ensures

pub returns-in-Some : goal.returns-in-Some
returns-in-Some c =
    let world = c.args.world.now in
    subst (λ n. IsBest world c.args.words.now Two c.args.allowed n c.best_marked.result)
    (sym (window_count c.args.words.now (machine_count world.tables) c.requires.shift))
    (c.best_marked.ensures c.args.words.now c.args.allowed
    (omega (arith, total_now c.divisors.ensures.sound c.parts.ensures.value, c.from.ensures))
    (window_of world c.args.words.now c.divisors.result.now.machines.number _ _
    c.divisors.ensures.machines c.requires.shift c.requires.named c.rest-first.ensures.value))
