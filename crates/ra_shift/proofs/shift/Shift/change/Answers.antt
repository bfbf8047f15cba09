-- The bounds of a machine's costs, and what the costs change by.
use Rattle.std.proofs.Common.{◌∙◌, ◌+◌, ap₂, arith}
use Rattle.std.specs.Int.{w128}
use Rattle.std.proofs.lemmas.Int.{to_z-of_z}
use Rattle.ra_shift.specs.Sharing.{cost_of}
use Rattle.ra_shift.proofs.AllowLaws.{at_of, start_of}
use Rattle.ra_shift.proofs.ChangeLaws.{cost_small, change_is}
use Rattle.ra_shift.proofs.shift.Shift.change.Goals as goal

pub overflow_add-here : goal.overflow_add-here
overflow_add-here c =
    let shift = c.args.self.now in
    let w = shift.world.now in
    omega (
      arith,
      c.machine_load.ensures.value,
      c.machine_balance.ensures.value,
      cost_small w.tables w.here c.args.to.0 shift.sound.well_formed shift.sound.small,
    )

pub overflow_add-self-3 : goal.overflow_add-self-3
overflow_add-self-3 c =
    let shift = c.args.self.now in
    let w = shift.world.now in
    omega (
      arith,
      c.args.self.now.before_small,
      c.machine_load.ensures.value,
      c.machine_balance.ensures.value,
      cost_small w.tables w.here c.args.to.0 shift.sound.well_formed shift.sound.small,
    )

pub difference-requires-clause-taken : goal.difference-requires-clause-taken
difference-requires-clause-taken c =
    let shift = c.args.self.now in
    let w = shift.world.now in
    omega (
      arith,
      c.args.self.now.before_small,
      c.machine_load.ensures.value,
      c.machine_balance.ensures.value,
      cost_small w.tables w.here c.args.to.0 shift.sound.well_formed shift.sound.small,
    )

pub returns : goal.returns
unfolding cost_of
returns c =
    let shift = c.args.self.now in
    let w = shift.world.now in
    let change = change_is w shift.process.0 c.args.to.0
    shift.without shift.before c.cost_with-with.result c.way_cost-way.result _ (start_of w shift.process.0 c.args.to.0
    (at_of w shift.process.0 c.args.to.0 shift.sound shift.process_known c.requires.machine) c.requires.apart)
    shift.without_is shift.before_is
    c.cost_with-with.ensures.value c.way_cost-way.ensures.value
    (ap₂ (λ x y. x + y) c.machine_load.ensures.value c.machine_balance.ensures.value) in
    to_z-of_z w128 c.difference.result c.difference.ensures.fits ∙ c.difference.ensures.value ∙ change
