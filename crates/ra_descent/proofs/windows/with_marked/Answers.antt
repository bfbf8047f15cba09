-- Machines without a mark are passed over.
use Rattle.std.proofs.Common.{◌≡◌, ◌+◌, ◌≤◌, subst, arith}
use Rattle.ra_descent.specs.Cheapest.{IsCheapest}
use Rattle.ra_descent.proofs.CheapestLemmas.{offer_fits, also, skips_unmarked, marked_sum}
use Rattle.ra_descent.proofs.windows.with_marked.Goals as goal

pub loop-place-init : goal.loop-place-init
loop-place-init c =
    let st = c.args.shift.now.world.now in
    let p = c.args.shift.now.process.0 in
    let next = c.next_mark-place.ensures in
    let begun : c.args.first ≡ c.args.first + 0 = omega arith in
    record {
      within = next.end;
      set = next.marked;
      low = omega arith;
      lacking = record { each = λ label to is. absurd (cc) };
      least = skips_unmarked st p 0 c.next_mark-place.result c.requires.marked c.requires.best.home (omega arith)
          (omega (arith, next.end)) (omega (arith, next.end)) next.none
          (subst (λ n. IsCheapest st p n c.args.best) begun c.requires.best);
    }

pub room_below-room-requires : goal.room_below-room-requires
room_below-room-requires c = offer_fits _ _ c.args.shift.now.sound c.loop-place.invariant.least.offer

pub cost_summed-found-requires-clause-bound : goal.cost_summed-found-requires-clause-bound
cost_summed-found-requires-clause-bound c = offer_fits _ _ c.args.shift.now.sound c.loop-place.invariant.least.offer

pub cost_summed-found-requires-clause-sum : goal.cost_summed-found-requires-clause-sum
cost_summed-found-requires-clause-sum c = marked_sum _ _ c.requires.marked c.loop-place.place (omega arith) (omega arith)
    (c.loop-place.invariant.set c.loop-place-test.true)

pub loop-place-preserved : goal.loop-place-preserved
loop-place-preserved c =
    let st = c.args.shift.now.world.now in
    let p = c.args.shift.now.process.0 in
    let is = c.loop-place.invariant in
    let next = c.next_mark-place-in-loop-place.ensures in
    let has = c.or_found-least.ensures st p (omega arith) is.least.offer c.cost_summed-found.ensures.below in
    let on : c.args.first + c.loop-place.place + 1 ≡ c.args.first + (c.loop-place.place + 1) = omega arith in
    let low : c.or_found-least.result.cost ≤ c.args.best.cost = omega (arith, has.lower, is.low) in
    record {
      within = next.end;
      set = next.marked;
      low = low;
      lacking = c.cost_summed-found.ensures.lacking;
      least = skips_unmarked st p (c.loop-place.place + 1) c.next_mark-place-in-loop-place.result c.requires.marked
          c.requires.best.home low (omega (arith, next.end)) (omega (arith, next.end)) next.none
          (subst (λ n. IsCheapest st p n c.or_found-least.result) on (also st p is.least has));
    }
