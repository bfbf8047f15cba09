-- One step after another.
use Rattle.std.proofs.Common.{◌≡◌, length, sym, ◌∙◌, arith}
use Rattle.ra_weigh.specs.Trials.{steps_of}
use Rattle.ra_weigh.proofs.FlowLemmas.{flow_none, flow_more, use_moves}
use Rattle.ra_weigh.proofs.trial.Trial.flow.Goals as goal

pub loop-j-init : goal.loop-j-init
loop-j-init c = flow_none _ _
    _ c.no_side-come.result.amounts.now c.no_side-come.ensures.width

pub with-came-requires : goal.with-came-requires
with-came-requires c = c.required_row-amounts.ensures.width ∙ sym c.loop-j.invariant.come_width

pub with-went-requires : goal.with-went-requires
with-went-requires c = c.required_row-amounts.ensures.width ∙ sym c.loop-j.invariant.gone_width

pub loop-j-preserved : goal.loop-j-preserved
loop-j-preserved c = flow_more _ _
    _ _ _ c.required_row-amounts.result.now _ _ c.loop-j.invariant
    (rw c.in-Some.is at c.with-came.ensures) (rw c.in-Some-went.is at c.with-went.ensures)
    (λ r within. use_moves _ _ c.args.m.0 r c.loop-j.j
    c.step-step.result _ c.step-step.ensures (c.required_row-amounts.ensures.each r within))
