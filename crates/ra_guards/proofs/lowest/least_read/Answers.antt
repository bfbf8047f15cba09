use Rattle.std.proofs.Common.{◌≡◌, ◌<◌, ◌+◌, length, arith}
use Rattle.ra_model.specs.Numbers.{machine_count, service_count}
use Rattle.ra_guards.proofs.GuardLemmas.{step_known, service_known, service_at, within_known}
use Rattle.ra_guards.proofs.LowestLemmas.{read_more, read_all}
use Rattle.ra_guards.proofs.lowest.least_read.Goals as goal

pub service_of-service-requires : goal.service_of-service-requires
service_of-service-requires c =
    let within : c.loop-j.j < length c.args.mv.now.steps =
    omega (arith, c.loop-j-test.true, c.steps-j-end.ensures.value) in
    step_known c.args.inst.now.tables c.args.mv.now.steps c.loop-j.j c.step.result (within_known _ _ c.requires.within)
    within c.step.ensures

pub lower_joined-least-requires-clause-service : goal.lower_joined-least-requires-clause-service
lower_joined-least-requires-clause-service c =
    let within : c.loop-j.j < length c.args.mv.now.steps =
    omega (arith, c.loop-j-test.true, c.steps-j-end.ensures.value) in
    service_known c.args.inst.now.tables c.step.result.process.0 c.service_of-service.result.0
    c.args.inst.now.well_formed
    (step_known c.args.inst.now.tables c.args.mv.now.steps c.loop-j.j c.step.result
    (within_known _ _ c.requires.within) within c.step.ensures) c.service_of-service.ensures

pub loop-j-preserved : goal.loop-j-preserved
loop-j-preserved c = read_more c.args.inst.now.tables _ c.args.q c.args.mv.now.steps
    c.loop-j.j c.service_of-service.result.0 _ c.loop-j.least
    c.lower_joined-least.result c.loop-j.invariant
    (service_at c.args.inst.now.tables c.args.mv.now.steps c.loop-j.j c.step.result c.service_of-service.result.0
    c.step.ensures c.service_of-service.ensures) c.lower_joined-least.ensures

pub returns : goal.returns
returns c =
    let i = c.args.inst.now.tables in
    let count : c.machines.result + c.services.result ≡ machine_count i + service_count i =
    omega (arith, c.machines.ensures, c.services.ensures) in
    read_all i _ c.args.q c.args.mv.now.steps c.loop-j.j
    _ c.loop-j.least count
    (omega (arith, c.loop-j-test.false, c.steps-j-end.ensures.value, c.loop-j.auto.j-end)) c.loop-j.invariant
