-- What the steps add and take, and what that makes.
use Rattle.std.proofs.Common.{◌≡◌, length, arith}
use Rattle.ra_model.specs.Usage.{use_of}
use Rattle.ra_weigh.proofs.StepLemmas.{use_comes, use_goes}
use Rattle.ra_weigh.specs.Trials.{steps_of}
use Rattle.ra_weigh.proofs.FlowLemmas.{flows_none, flows_more, flowed_enough, flowed}
use Rattle.ra_weigh.proofs.trial.Trial.use_after.Goals as goal

pub loop-j-init : goal.loop-j-init
loop-j-init c =
    flows_none _ _ _

pub loop-j-preserved : goal.loop-j-preserved
loop-j-preserved c = flows_more _ _ c.loop-j.invariant
    (use_comes _ _ c.args.m.0 c.args.r.0 c.loop-j.j c.amount_if-came.result c.step-step.ensures
    c.required-amount.ensures c.amount_if-came.ensures.value)
    (use_goes _ _ c.args.m.0 c.args.r.0 c.loop-j.j c.amount_if-went.result c.step-step.ensures c.required-amount.ensures
    c.amount_if-went.ensures.value)
    c.amount_if-came.ensures.few c.amount_if-went.ensures.few

pub overflow_sub-result : goal.overflow_sub-result
unfolding use_of
overflow_sub-result c = grind (arith, flowed_enough)

pub returns : goal.returns
unfolding use_of
returns c =
    let all : c.loop-j.j ≡ length (steps_of c.args.self.now) =
    omega (arith, c.loop-j-test.false, c.steps-j-end.ensures.value) in
    flowed _ c.args.self.now.moves all c.loop-j.invariant c.requires.kept
