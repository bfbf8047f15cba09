-- What is read of the world.
use Rattle.std.proofs.Common.{◌≡◌, ◌∙◌, ap, arith}
use Rattle.ra_model.specs.Costs.{parts_of}
use Rattle.ra_model.proofs.BoundLemmas.{objective_under, service_under}
use Rattle.ra_model.specs.Numbers.{service_of, location_of, neighbourhood_of, spread_of}
use Rattle.ra_model.specs.Assignments.{machine_at}
use Rattle.ra_shift.specs.Arriving.{service_now}
use Rattle.ra_shift.specs.Filter.{base_added, base_taken}
use Rattle.ra_shift.specs.Sharing.{use_without, row_cost_with}
use Rattle.ra_shift.proofs.ReadLaws.{required_in}
use Rattle.ra_shift.proofs.shift.Shift.make.Goals as goal
use Rattle.ra_model.specs.Situations.{cost_at}

pub overflow_add-result-2 : goal.overflow_add-result-2
unfolding parts_of
overflow_add-result-2 g c =
    let w = c.args.world.now in
    let kept : c.parts-parts.result.total ≡ cost_at w = rw c.parts-parts.ensures.value in
    omega (
      arith,
      kept,
      objective_under w.tables w.start w.here
          c.parts-parts.ensures.sound.well_formed c.parts-parts.ensures.sound.small,
      c.cost_without-without.ensures.bound,
      c.added_away-away.ensures.bound,
    )

pub overflow_add-result-4 : goal.overflow_add-result-4
unfolding parts_of
overflow_add-result-4 g c =
    let w = c.args.world.now in
    let service : c.parts-parts.result.service ≡ service_now w =
    rw c.parts-parts.ensures.value in
    omega (
      arith,
      service,
      service_under w.tables w.start w.here
          c.parts-parts.ensures.sound.well_formed c.parts-parts.ensures.sound.small,
      c.cost_before-before.ensures.bound,
      c.saved.ensures.bound,
    )

pub invariant_of-result : goal.invariant_of-result
unfolding parts_of base_added base_taken
invariant_of-result g c =
    let w = c.args.world.now in
    let p = c.args.process.0 in
    let a = w.here in
    let from : c.machine_of-from.result.0 ≡ machine_at a p =
    rw c.assignment.ensures.value at c.machine_of-from.ensures in
    let home : c.machine_of-home.result.0 ≡ machine_at w.start p =
    rw c.initial.ensures.value at c.machine_of-home.ensures in
    let service = c.service_of-service.ensures
    ∙ ap (λ j. service_of j p) c.instance-inst.ensures.value in
    let limits = c.parts-parts.ensures.sound.well_formed in
    let small = c.parts-parts.ensures.sound.small in
    let are = required_in w.tables c.instance-inst.result.now.tables p c.requirements_of-required.result.now
    c.instance-inst.ensures.value c.requirements_of-required.ensures.width c.requirements_of-required.ensures.each in
    let kept : c.parts-parts.result.total ≡ cost_at w = rw c.parts-parts.ensures.value in
    let now : c.parts-parts.result.service ≡ service_now w =
    rw c.parts-parts.ensures.value in
    let without = c.cost_without-without.ensures.value
    ∙ ap (λ m. row_cost_with w.tables m (use_without w.tables a p)) from in
    let saves = rw c.instance-inst.ensures.value at c.saved.ensures.value in
    let kept_under = objective_under w.tables w.start a limits small in
    let now_under = service_under w.tables w.start a limits small in
    record {
      sound = c.parts-parts.ensures.sound;
      process_known = c.requires;
      from_is = from;
      home_is = home;
      service_is = service;
      required_are = are;
      location_is = c.location-location.ensures ∙ ap (λ j. location_of j c.machine_of-from.result.0)
          c.instance-inst.ensures.value ∙ ap (location_of w.tables) from;
      neighbourhood_is = c.neighbourhood-neighbourhood.ensures
          ∙ ap (λ j. neighbourhood_of j c.machine_of-from.result.0) c.instance-inst.ensures.value
          ∙ ap (neighbourhood_of w.tables) from;
      wants_is = c.spread_min.ensures ∙ ap (λ j. spread_of j c.service_of-service.result.0)
          c.instance-inst.ensures.value ∙ ap (spread_of w.tables) service;
      without_is = c.cost_without-without.ensures.value
          ∙ ap (λ m. row_cost_with w.tables m (use_without w.tables a p)) from;
      without_small = c.cost_without-without.ensures.bound;
      before_is = c.cost_before-before.ensures.value;
      before_small = c.cost_before-before.ensures.bound;
      kept_is = kept;
      kept_small = omega (arith, kept, kept_under);
      service_cost_is = now;
      service_cost_small = omega (arith, now, now_under);
      added_is = omega (arith, kept, without, c.added_away-away.ensures.value);
      added_small =
          omega (arith, kept, kept_under, c.cost_without-without.ensures.bound, c.added_away-away.ensures.bound);
      taken_is = omega (arith, c.cost_before-before.ensures.value, saves p are, now);
      taken_small = omega (arith, c.cost_before-before.ensures.bound, c.saved.ensures.bound, now, now_under);
    }

pub cost_without-without-requires-clause-required : goal.cost_without-without-requires-clause-required
cost_without-without-requires-clause-required g c =
    required_in c.args.world.now.tables c.instance-inst.result.now.tables c.args.process.0
    c.requirements_of-required.result.now c.instance-inst.ensures.value c.requirements_of-required.ensures.width
    c.requirements_of-required.ensures.each
