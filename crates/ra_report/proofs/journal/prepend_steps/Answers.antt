use Rattle.std.proofs.Common.{◌-◌, arith}
use Rattle.ra_moves.specs.Steps.{step_at}
use Rattle.ra_report.proofs.StepTexts.{no_steps_left, one_step_more, steps_within}
use Rattle.ra_report.proofs.journal.prepend_steps.Goals as goal

pub loop-left-init : goal.loop-left-init
loop-left-init c = record {
  within = omega arith;
  written = no_steps_left c.args.line.now c.args.mv.now.steps c.steps-left.result c.steps-left.ensures.value;
}

pub loop-left-preserved : goal.loop-left-preserved
unfolding step_at
loop-left-preserved c =
    record {
      within = omega arith;
      written = one_step_more c.args.mv.now.steps (c.loop-left.left - 1) c.loop-left.left _ (omega arith) (omega arith)
          c.loop-left.invariant.written (rw c.step.ensures at c.prepend_step.ensures);
    }

pub returns : goal.returns
returns c = steps_within c.args.mv.now.steps c.loop-left.left (omega arith) (omega arith) c.loop-left.invariant.written
