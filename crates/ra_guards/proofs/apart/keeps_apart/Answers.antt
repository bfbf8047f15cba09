use Rattle.std.proofs.Common.{◌≡◌, ◌∙◌, length, sym, ap, arith}
use Rattle.ra_guards.specs.Guards.{meets_step}
use Rattle.ra_guards.proofs.GuardLemmas.{step_known, meets_none, meets_more, apart_all, apart_not}
use Rattle.ra_guards.proofs.apart.keeps_apart.Goals as goal

pub loop-k-init : goal.loop-k-init
loop-k-init c = meets_none c.args.inst.now.tables c.args.mv.now.steps c.args.other.now.steps

pub meets_step-requires-clause-there : goal.meets_step-requires-clause-there
meets_step-requires-clause-there c = step_known c.args.inst.now.tables c.args.other.now.steps c.loop-k.k c.step.result
    c.requires.other_known (omega (arith, c.loop-k-test.true, c.steps-k-end.ensures.value)) c.step.ensures

pub returns-then-meets_step : goal.returns-then-meets_step
returns-then-meets_step c = apart_not c.args.inst.now.tables c.args.mv.now.steps c.args.other.now.steps c.loop-k.k
    (omega (arith, c.loop-k-test.true, c.steps-k-end.ensures.value))
    (ap (meets_step c.args.inst.now.tables c.args.mv.now.steps) (sym c.step.ensures) ∙ sym c.meets_step.ensures
    ∙ c.if-meets_step.true)

pub loop-k-preserved : goal.loop-k-preserved
loop-k-preserved c = meets_more c.args.inst.now.tables c.args.mv.now.steps c.args.other.now.steps c.loop-k.k
    c.loop-k.invariant (ap (meets_step c.args.inst.now.tables c.args.mv.now.steps) (sym c.step.ensures)
    ∙ sym c.meets_step.ensures ∙ c.if-meets_step.false)

pub returns : goal.returns
returns c =
    let all : c.loop-k.k ≡ length c.args.other.now.steps =
    omega (arith, c.loop-k-test.false, c.steps-k-end.ensures.value) in
    apart_all c.args.inst.now.tables c.args.mv.now.steps c.args.other.now.steps c.loop-k.k all c.loop-k.invariant
