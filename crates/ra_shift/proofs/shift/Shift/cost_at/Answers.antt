-- What is added and taken away by the way, and the service cost with the new count.
use Rattle.std.proofs.Common.{◌≢◌, ◌∙◌, ◌+◌, ◌<◌, ℕ, ap, ap₂, sym, arith}
use Rattle.ra_model.specs.Numbers.{service_count}
use Rattle.ra_model.specs.Costs.{service_cost}
use Rattle.ra_model.specs.Situations.{moved_at}
use Rattle.ra_shift.specs.Conditions.{shifted}
use Rattle.ra_shift.specs.Sharing.{cost_of}
use Rattle.ra_shift.proofs.ChangeLaws.{cost_small}
use Rattle.ra_shift.proofs.FilterLaws.{home_at, count_stays}
use Rattle.ra_shift.proofs.shift.Shift.cost_at.Goals as goal

pub overflow_add-here : goal.overflow_add-here
overflow_add-here c =
    let shift = c.args.self.now in
    let w = shift.world.now in
    omega (
      arith,
      c.machine_load.ensures.value,
      c.machine_balance.ensures.value,
      cost_small w.tables w.here c.args.to.0 shift.sound.well_formed shift.sound.small,
    )

pub service_with-service-requires-clause-service : goal.service_with-service-requires-clause-service
service_with-service-requires-clause-service c =
    let shift = c.args.self.now in
    omega (arith, shift.service_is, shift.sound.well_formed.services shift.process.0 shift.process_known)

pub overflow_add-result-5 : goal.overflow_add-result-5
overflow_add-result-5 c =
    let shift = c.args.self.now in
    let w = shift.world.now in
    omega (
      arith,
      c.args.self.now.before_small,
      c.machine_load.ensures.value,
      c.machine_balance.ensures.value,
      cost_small w.tables w.here c.args.to.0 shift.sound.well_formed shift.sound.small,
    )

pub overflow_add-result-6 : goal.overflow_add-result-6
overflow_add-result-6 c =
    let shift = c.args.self.now in
    let w = shift.world.now in
    omega (
      arith,
      c.args.self.now.before_small,
      c.args.self.now.service_cost_small,
      c.machine_load.ensures.value,
      c.machine_balance.ensures.value,
      cost_small w.tables w.here c.args.to.0
          shift.sound.well_formed shift.sound.small,
    )

pub overflow_sub-result : goal.overflow_sub-result
unfolding cost_of service_cost
overflow_sub-result c =
    let shift = c.args.self.now in
    let w = shift.world.now in
    let p = shift.process.0 in
    let b = shifted w.here p c.args.to.0 in
    let others = λ (k : ℕ) (within : k < service_count w.tables) (apart : k ≢ shift.service.0).
    count_stays w p c.args.to.0 k shift.sound.fits shift.process_known
    (λ same. apart (same ∙ sym shift.service_is)) in
    let service = c.service_with-service.ensures.value (moved_at (record w { here = b })) others
    (c.moved.ensures.value ∙ ap (moved_at (record w { here = b })) (sym shift.service_is)) in
    let law = home_at w p c.args.to.0 shift.kept shift.without shift.before shift.service_cost c.cost_with-with.result
    c.way_cost-way.result (c.machine_load.result + c.machine_balance.result) c.service_with-service.result
    shift.sound shift.process_known c.requires.machine c.requires.unbroken shift.kept_is shift.without_is
    shift.before_is
    shift.service_cost_is c.cost_with-with.ensures.value c.way_cost-way.ensures.value
    (ap₂ (λ x y. x + y) c.machine_load.ensures.value c.machine_balance.ensures.value) service in
    omega (arith, law)

pub returns : goal.returns
unfolding cost_of service_cost
returns c =
    let shift = c.args.self.now in
    let w = shift.world.now in
    let p = shift.process.0 in
    let b = shifted w.here p c.args.to.0 in
    let others = λ (k : ℕ) (within : k < service_count w.tables) (apart : k ≢ shift.service.0).
    count_stays w p c.args.to.0 k shift.sound.fits shift.process_known
    (λ same. apart (same ∙ sym shift.service_is)) in
    let service = c.service_with-service.ensures.value (moved_at (record w { here = b })) others
    (c.moved.ensures.value ∙ ap (moved_at (record w { here = b })) (sym shift.service_is)) in
    let law = home_at w p c.args.to.0 shift.kept shift.without shift.before shift.service_cost c.cost_with-with.result
    c.way_cost-way.result (c.machine_load.result + c.machine_balance.result) c.service_with-service.result
    shift.sound shift.process_known c.requires.machine c.requires.unbroken shift.kept_is shift.without_is
    shift.before_is
    shift.service_cost_is c.cost_with-with.ensures.value c.way_cost-way.ensures.value
    (ap₂ (λ x y. x + y) c.machine_load.ensures.value c.machine_balance.ensures.value) service in
    omega (arith, law)
