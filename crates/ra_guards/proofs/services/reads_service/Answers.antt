use Rattle.std.proofs.Common.{◌≡◌, ◌<◌, length, sym, ◌∙◌, arith}
use Rattle.ra_guards.proofs.GuardLemmas.{joined_none, joined_more, joined_all, joined_found, service_at, step_known}
use Rattle.ra_guards.proofs.GuardLemmas.{service_known}
use Rattle.ra_guards.proofs.services.reads_service.Goals as goal

pub loop-j-init : goal.loop-j-init
loop-j-init c = joined_none c.args.inst.now.tables c.args.mv.now.steps c.args.service.0

pub service_of-requires : goal.service_of-requires
service_of-requires c = step_known c.args.inst.now.tables c.args.mv.now.steps c.loop-j.j c.step.result c.requires.known
    (omega (arith, c.loop-j-test.true, c.steps-j-end.ensures.value)) c.step.ensures

pub are_joined-requires-clause-one : goal.are_joined-requires-clause-one
are_joined-requires-clause-one c = service_known c.args.inst.now.tables c.step.result.process.0 c.service_of.result.0
    c.args.inst.now.well_formed
    (step_known c.args.inst.now.tables c.args.mv.now.steps c.loop-j.j c.step.result c.requires.known
    (omega (arith, c.loop-j-test.true, c.steps-j-end.ensures.value)) c.step.ensures) c.service_of.ensures

pub loop-j-preserved : goal.loop-j-preserved
loop-j-preserved c = joined_more c.args.inst.now.tables c.args.mv.now.steps c.args.service.0 c.loop-j.j
    c.service_of.result.0
    (service_at c.args.inst.now.tables c.args.mv.now.steps c.loop-j.j c.step.result c.service_of.result.0 c.step.ensures
    c.service_of.ensures) c.loop-j.invariant (sym c.are_joined.ensures ∙ c.if-are_joined.false)

pub returns : goal.returns
returns c =
    let all : c.loop-j.j ≡ length c.args.mv.now.steps =
    omega (arith, c.loop-j-test.false, c.steps-j-end.ensures.value) in
    joined_all c.args.inst.now.tables c.args.mv.now.steps c.args.service.0 c.loop-j.j all c.loop-j.invariant

pub returns-then-are_joined : goal.returns-then-are_joined
returns-then-are_joined c =
    let i = c.args.inst.now.tables in
    let steps = c.args.mv.now.steps in
    let j = c.loop-j.j in
    let within : j < length steps = omega (arith, c.loop-j-test.true, c.steps-j-end.ensures.value) in
    joined_found i steps c.args.service.0 j c.service_of.result.0
    (service_at i steps j c.step.result c.service_of.result.0 c.step.ensures c.service_of.ensures) within
    (sym c.are_joined.ensures ∙ c.if-are_joined.true)
