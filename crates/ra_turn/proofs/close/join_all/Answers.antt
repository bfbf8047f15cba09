use Rattle.ra_turn.proofs.Joining.{first_joined, next_done, next_joined}
use Rattle.ra_turn.proofs.close.join_all.Goals as goal

pub join-requires-clause-pass : goal.join-requires-clause-pass
join-requires-clause-pass g c =
    next_done c.args.turn.now c.args.passes.items c.pop-in-loop-pass.new.self.items c.loop-pass.passes.items
    c.in-Some-pop.pass c.loop-pass.seat c.requires.passes.1 c.in-Some-pop.ensures.items c.loop-pass.invariant

pub loop-pass-preserved : goal.loop-pass-preserved
loop-pass-preserved g c =
    next_joined c.args.turn.now c.args.passes.items c.pop-in-loop-pass.new.self.items c.loop-pass.passes.items
    c.in-Some-pop.pass c.loop-pass.seat c.join.new.seat
    c.requires.passes.1 c.in-Some-pop.ensures.items c.loop-pass.invariant c.join.ensures.0.0 c.join.ensures.1

pub loop-pass-init : goal.loop-pass-init
loop-pass-init g c =
    first_joined c.args.turn.now c.args.passes.items c.pop.new.self.items c.in-Some.last c.into_seat-seat.result
    c.requires.passes.1 c.in-Some.ensures.items c.into_seat-seat.ensures

pub join-requires-clause-seat : goal.join-requires-clause-seat
join-requires-clause-seat g c =
    let joined = c.loop-pass.invariant.2 in
    (joined.table, joined.idle, joined.empty)
