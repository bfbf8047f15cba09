-- What the steps add and take, and what that makes.
use Rattle.std.proofs.Common.{◌≡◌, length, arith}
use Rattle.ra_model.specs.Services.{members_at}
use Rattle.ra_weigh.specs.Marks.{marked}
use Rattle.ra_weigh.proofs.StepLemmas.{come_read, gone_read, step_process, step_to, step_from}
use Rattle.ra_weigh.specs.Trials.{steps_of}
use Rattle.ra_weigh.proofs.FlowLemmas.{flows_none, flows_more, flowed_enough, flowed}
use Rattle.ra_weigh.proofs.trial.Trial.count_from.Goals as goal

pub loop-j-init : goal.loop-j-init
loop-j-init c =
    flows_none _ _ 1

pub loop-j-preserved : goal.loop-j-preserved
loop-j-preserved c =
    flows_more _ _ c.loop-j.invariant
    (come_read _ _ c.loop-j.j c.one_at-came.result c.step-step.ensures c.one_at-came.ensures.one)
    (gone_read _ _ c.loop-j.j c.one_at-went.result c.step-step.ensures c.one_at-went.ensures.one)
    c.one_at-came.ensures.few c.one_at-went.ensures.few

pub overflow_sub-result : goal.overflow_sub-result
unfolding marked members_at
overflow_sub-result c = grind (arith, flowed_enough)

pub returns : goal.returns
unfolding marked members_at
returns c =
    let all : c.loop-j.j ≡ length (steps_of c.args.self.now) =
    omega (arith, c.loop-j-test.false, c.steps-j-end.ensures.value) in
    flowed _ c.args.self.now.moves all c.loop-j.invariant
    c.requires.kept
