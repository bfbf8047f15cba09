-- The bounds of a machine's costs.
use Rattle.std.proofs.Common.{◌∙◌, ◌+◌, ap, ap₂, arith}
use Rattle.ra_model.specs.MachineCosts.{machine_load, machine_balance}
use Rattle.ra_shift.specs.Sharing.{cost_of, way_cost}
use Rattle.ra_shift.proofs.ChangeLaws.{cost_small}
use Rattle.ra_shift.proofs.shift.cost_before.Goals as goal

pub overflow_add-result : goal.overflow_add-result
overflow_add-result c =
    omega (
      arith,
      c.machine_load-load.ensures.value,
      c.machine_balance-balance.ensures.value,
      cost_small c.args.world.now.tables c.args.world.now.here c.args.from.0
          c.machine_load-load.ensures.sound.well_formed c.machine_load-load.ensures.sound.small,
    )

pub overflow_add-result-2 : goal.overflow_add-result-2
overflow_add-result-2 c =
    omega (
      arith,
      c.way_cost.ensures.bound,
      c.machine_load-load.ensures.value,
      c.machine_balance-balance.ensures.value,
      cost_small c.args.world.now.tables c.args.world.now.here c.args.from.0
          c.machine_load-load.ensures.sound.well_formed c.machine_load-load.ensures.sound.small,
    )

pub returns-clause-value : goal.returns-clause-value
unfolding cost_of
returns-clause-value c =
    let w = c.args.world.now in
    ap₂ (λ x y. x + y)
    (ap₂ (λ x y. x + y)
    (c.machine_load-load.ensures.value ∙ ap (machine_load w.tables w.here) c.requires.from)
    (c.machine_balance-balance.ensures.value
    ∙ ap (machine_balance w.tables w.here) c.requires.from))
    (c.way_cost.ensures.value ∙ ap (way_cost w.tables w.start c.args.p.0) c.requires.from)

pub returns-clause-bound : goal.returns-clause-bound
returns-clause-bound c =
    omega (
      arith,
      c.way_cost.ensures.bound,
      c.machine_load-load.ensures.value,
      c.machine_balance-balance.ensures.value,
      cost_small c.args.world.now.tables c.args.world.now.here c.args.from.0
          c.machine_load-load.ensures.sound.well_formed c.machine_load-load.ensures.sound.small,
    )
