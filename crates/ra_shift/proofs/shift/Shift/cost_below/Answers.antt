-- A machine that adds too much has no cost below the bound.
use Rattle.std.proofs.Common.{◌∙◌, sym, arith}
use Rattle.ra_shift.proofs.FilterLaws.{dear_cost}
use Rattle.ra_shift.proofs.shift.Shift.cost_below.Goals as goal

pub returns-in_err-sum : goal.returns-in_err-sum
returns-in_err-sum c =
    let shift = c.args.self.now in
    dear_cost shift.world.now shift.process.0 c.args.to.0 c.args.bound shift.taken shift.added c.room_below.result
    c.sum_below.result _
    shift.sound shift.process_known c.requires.machine (λ same. c.if-to-self.true (sym (shift.home_is ∙ same)))
    shift.taken_is
    shift.added_is (omega (arith, c.room_below.ensures, shift.taken_is, shift.added_is)) c.sum_below.ensures c.in_err-sum.was c.from_residual.ensures
