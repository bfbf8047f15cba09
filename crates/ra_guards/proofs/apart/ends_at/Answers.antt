use Rattle.std.proofs.Common.{◌≡◌, ◌<◌, length, arith}
use Rattle.ra_guards.proofs.GuardLemmas.{end_none, end_more, end_all, end_from, end_to}
use Rattle.ra_guards.proofs.apart.ends_at.Goals as goal
use Rattle.ra_guards.proofs.apart.ends_at.Goals.{then-step-machine-via-then-step-machine}
use Rattle.ra_guards.proofs.apart.ends_at.Goals.{then-step-machine-via-else-step-machine+then-step-machine-2}

pub loop-j-init : goal.loop-j-init
loop-j-init c = end_none c.args.mv.now.steps c.args.machine.0

pub loop-j-preserved : goal.loop-j-preserved
loop-j-preserved c = end_more c.args.mv.now.steps c.args.machine.0 c.loop-j.j c.step-step.result c.step-step.ensures
    c.loop-j.invariant c.if-step-machine.false c.if-step-machine-2.false

pub returns : goal.returns
returns c =
    let all : c.loop-j.j ≡ length c.args.mv.now.steps =
    omega (arith, c.loop-j-test.false, c.steps-j-end.ensures.value) in
    end_all c.args.mv.now.steps c.args.machine.0 c.loop-j.j all c.loop-j.invariant

pub returns-then-step-machine : goal.returns-then-step-machine
returns-then-step-machine c =
    let steps = c.args.mv.now.steps in
    let within : c.loop-j.j < length steps = omega (arith, c.loop-j-test.true, c.steps-j-end.ensures.value) in
    elim c.then-step-machine.branch [
      | then-step-machine-via-then-step-machine w ↦
          end_from steps c.args.machine.0 c.loop-j.j c.step-step.result c.step-step.ensures within
          w.if-step-machine.true
      | then-step-machine-via-else-step-machine+then-step-machine-2 w ↦
          end_to steps c.args.machine.0 c.loop-j.j c.step-step.result c.step-step.ensures within
          w.if-step-machine-2.true
    ]
