-- The cost below the bound of the best so far.
use Rattle.std.proofs.Common.{◌∙◌, ap, subst, arith}
use Rattle.ra_shift.specs.Arriving.{IsCostBelow}
use Rattle.ra_plan.specs.Choosing.{cost_to_beat}
use Rattle.ra_plan.proofs.shifts.with_shift.Goals as goal

pub cost_below-requires-clause-machine : goal.cost_below-requires-clause-machine
cost_below-requires-clause-machine c = rw c.requires.world c.requires.machine

pub cost_below-requires-clause-bound : goal.cost_below-requires-clause-bound
cost_below-requires-clause-bound c = omega (arith, c.bound.ensures, c.requires.bound)

pub returns : goal.returns
returns c = λ x d allowed most is same.
    let world = c.args.world.now in
    let below = rw c.requires.world at c.cost_below.ensures in
    c.or_found.ensures.best world x d allowed _ is same
    (subst (λ b. IsCostBelow world c.args.shift.now.process.0 c.args.to.0 b c.cost_below.result)
    (c.bound.ensures ∙ ap (cost_to_beat c.args.best.cost) most) below)
