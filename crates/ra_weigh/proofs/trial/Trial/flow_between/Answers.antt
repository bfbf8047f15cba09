-- One step after another.
use Rattle.std.proofs.Common.{◌≡◌, length, sym, ◌∙◌, arith}
use Rattle.ra_weigh.specs.Trials.{steps_of}
use Rattle.ra_weigh.proofs.StepLemmas.{step_process}
use Rattle.ra_weigh.proofs.FlowLemmas.{flow_none, flow_more, transient_moves}
use Rattle.ra_weigh.proofs.trial.Trial.flow_between.Goals as goal

pub loop-j-init : goal.loop-j-init
loop-j-init c = flow_none _ _
    _ c.no_side-come.result.amounts.now c.no_side-come.ensures.width

pub home-home-requires : goal.home-home-requires
home-home-requires c = grind (arith, step_process)

pub with-came-requires : goal.with-came-requires
with-came-requires c = c.required_row-amounts.ensures.width ∙ sym c.loop-j.invariant.come_width

pub with-went-requires : goal.with-went-requires
with-went-requires c = c.required_row-amounts.ensures.width ∙ sym c.loop-j.invariant.gone_width

pub loop-j-preserved : goal.loop-j-preserved
loop-j-preserved c = flow_more _ _
    _ _ _ c.required_row-amounts.result.now _ _ c.loop-j.invariant
    (rw c.in-Some.is at c.with-came.ensures) (rw c.in-Some-went.is at c.with-went.ensures)
    (λ r within. transient_moves _ _ _
    c.args.m.0 r c.loop-j.j c.home-home.result.0 c.step-step.result _ _ _ c.step-step.ensures c.home-home.ensures
    (c.required_row-amounts.ensures.each r within) c.is_guest-comes.ensures.home c.is_guest-comes.ensures.guest
    c.is_guest-goes.ensures.home c.is_guest-goes.ensures.guest)

pub returns : goal.returns
returns c = grind arith
