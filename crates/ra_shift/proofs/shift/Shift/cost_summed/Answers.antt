-- The sum of a machine, and what it may be below.
use Rattle.std.proofs.Common.{sym, ◌≢◌, ◌∙◌, None, refl, arith}
use Rattle.ra_model.specs.Assignments.{machine_at}
use Rattle.ra_shift.specs.Arriving.{cost_added, cost_taken}
use Rattle.ra_shift.proofs.FilterLaws.{dear_cost, sum_none}
use Rattle.ra_shift.proofs.shift.Shift.cost_summed.Goals as goal

pub returns-then-sum-room-clause-below : goal.returns-then-sum-room-clause-below
returns-then-sum-room-clause-below c =
    let shift = c.args.self.now in
    let w = shift.world.now in
    let p = shift.process.0 in
    let to = c.args.to.0 in
    let apart : machine_at w.start p ≢ to = λ same. c.if-to-self.false (sym (shift.home_is ∙ same)) in
    dear_cost w p to c.args.bound (cost_taken w p) (cost_added w p) c.args.room None None shift.sound
    shift.process_known c.requires.machine apart refl refl c.requires.room
    (sum_none w p to c.args.room c.from-sum.result c.if-sum-room.true
    (omega (arith, c.requires.sum apart, c.from-sum.ensures))) refl refl

pub cost_adding-requires-clause-sum : goal.cost_adding-requires-clause-sum
cost_adding-requires-clause-sum c =
    let shift = c.args.self.now in
    c.from-sum.ensures ∙ c.requires.sum (λ same. c.if-to-self.false (sym (shift.home_is ∙ same)))

pub returns-clause-below : goal.returns-clause-below
returns-clause-below c = c.cost_adding.ensures.below c.args.bound (omega (arith, c.if-sum-room.false, c.requires.room))
