use Rattle.std.proofs.Common.{refl, ◌∙◌, arith}
use Rattle.ra_worker.proofs.AheadLemmas.{round_next, round_left, round_handed}
use Rattle.ra_worker.proofs.Runs.{has_run}
use Rattle.ra_worker.proofs.Steps.{room_left, may_on}
use Rattle.ra_worker.proofs.running.WorkerLabourDesk.labour.Goals as goal

pub proposals-init : goal.proposals-init
proposals-init g c = record {
  may = record { work = c.requires.work; own = c.requires.own; turns = omega (arith, c.requires.turns) };
  number = refl;
  turns = omega arith;
}

pub plan_next-first-requires : goal.plan_next-first-requires
plan_next-first-requires g c = c.has_left.ensures.left c.proposals-test.true

pub plan_ahead-requires-clause-left : goal.plan_ahead-requires-clause-left
plan_ahead-requires-clause-left g c = c.has_left.ensures.left c.proposals-test.true

pub hand_in-quiet-requires-clause-plan : goal.hand_in-quiet-requires-clause-plan
hand_in-quiet-requires-clause-plan g c =
    let left = c.has_next.ensures.some c.round-test.true in
    round_next c.round.self.replica c.proposals.self.replica.next c.place.result c.round.ahead c.place_next.new.self
    c.plan_next-first.result c.next-plan.result.now (c.round.invariant.stands left) left c.place.ensures
    c.place_next.ensures c.next-plan.ensures.first c.next-plan.ensures.later

pub hand_in-quiet-requires-clause-turns : goal.hand_in-quiet-requires-clause-turns
hand_in-quiet-requires-clause-turns g c =
    let left = c.has_next.ensures.some c.round-test.true in
    room_left c.args.with.now.shared.now c.round.self c.round.invariant.may
    (round_left c.round.self.replica c.proposals.self.replica.next c.plan_next-first.result c.round.ahead
    (c.round.invariant.stands left) left)

pub round-preserved : goal.round-preserved
round-preserved g c =
    let at = c.round.invariant in
    let moved = c.hand_in-quiet.ensures.moved in
    let some = c.has_next.ensures.some c.round-test.true in
    record {
      may = may_on c.args.with.now.shared.now c.round.self c.hand_in-quiet.new.self at.may c.hand_in-quiet.ensures.work
          c.hand_in-quiet.ensures.own moved;
      number = moved.number ∙ at.number;
      turns = omega (arith, moved.turns, moved.fewer, at.turns);
      fewer = omega (arith, moved.fewer, at.fewer);
      some = λ later. omega (arith, moved.fewer, at.fewer);
      stands = λ left. round_handed c.round.self.replica c.hand_in-quiet.new.self.replica
          c.proposals.self.replica.next c.place.result c.hand_in-quiet.result c.plan_next-first.result c.round.ahead
          c.place_next.new.self c.move_on.new.self (at.stands some) c.place_next.ensures c.hand_in-quiet.ensures.quiet
          c.move_on.ensures.plans c.move_on.ensures.made c.move_on.ensures.next c.move_on.ensures.none left;
    }

pub returns : goal.returns
returns g c = has_run c.args.with.now.shared.now c.args.self.now c.proposals.self c.proposals.invariant.may.work
    c.proposals.invariant.may.own c.proposals.invariant.number c.proposals.invariant.turns
    (c.has_left.ensures.used c.proposals-test.false)
