use Rattle.std.proofs.Common.{rules}
use Rattle.ra_moves.specs.Steps.{step_at}
use Rattle.ra_report.proofs.LengthLaws.{no_steps_length, steps_length, all_steps_length}
use Rattle.ra_report.proofs.lengths.steps_are_short.Goals as goal

pub loop-i-init : goal.loop-i-init
loop-i-init c = no_steps_length c.args.mv.now.steps

pub loop-i-preserved : goal.loop-i-preserved
unfolding step_at
loop-i-preserved c =
    steps_length c.args.mv.now.steps c.loop-i.i _ (rw (← c.steps-i-end.ensures.value) c.loop-i-test.true)
    c.loop-i.invariant (rw c.step.ensures at c.step_is_short.ensures)

pub returns : goal.returns
returns c = all_steps_length c.args.mv.now.steps c.loop-i.i (search rules) (search rules) c.loop-i.invariant
