use Rattle.std.proofs.Common.{◌<◌, arith}
use Rattle.ra_model.specs.Numbers.{service_count}
use Rattle.ra_guards.proofs.GuardLemmas.{step_known, service_known, within_known}
use Rattle.ra_guards.proofs.OrderLemmas.{from_has, to_has, service_has}
use Rattle.ra_guards.proofs.LowestLemmas.{step_lowered}
use Rattle.ra_guards.proofs.lowest.lower_written.Goals as goal

pub service_of-service-requires : goal.service_of-service-requires
service_of-service-requires c = step_known c.args.inst.now.tables c.args.mv.now.steps c.args.j c.step-step.result
    (within_known _ _ c.requires.within) c.requires.there c.step-step.ensures

pub overflow_add-number : goal.overflow_add-number
overflow_add-number c =
    let i = c.args.inst.now.tables in
    let limits = c.args.inst.now.well_formed in
    let service : c.service_of-service.result.0 < service_count i =
    service_known i c.step-step.result.process.0 c.service_of-service.result.0 limits
    (step_known i c.args.mv.now.steps c.args.j c.step-step.result (within_known _ _ c.requires.within)
    c.requires.there c.step-step.ensures)
    c.service_of-service.ensures in
    omega (arith, limits.few_machines, limits.few_services, c.machines.ensures)

pub lower-least-requires : goal.lower-least-requires
lower-least-requires c = from_has c.args.inst.now.tables c.args.mv.now.steps c.args.j c.step-step.result
    c.args.versions.now c.requires.within c.requires.there c.requires.sized c.step-step.ensures

pub lower-least-requires-2 : goal.lower-least-requires-2
lower-least-requires-2 c = to_has c.args.inst.now.tables c.args.mv.now.steps c.args.j c.step-step.result
    c.args.versions.now c.requires.within c.requires.there c.requires.sized c.step-step.ensures

pub lower-requires : goal.lower-requires
lower-requires c =
    let i = c.args.inst.now.tables in
    service_has i c.service_of-service.result c.args.versions.now
    (service_known i c.step-step.result.process.0 c.service_of-service.result.0 c.args.inst.now.well_formed
    (step_known i c.args.mv.now.steps c.args.j c.step-step.result (within_known _ _ c.requires.within)
    c.requires.there c.step-step.ensures)
    c.service_of-service.ensures) c.requires.sized

pub returns : goal.returns
returns c =
    let i = c.args.inst.now.tables in
    step_lowered i c.args.mv.now.steps _ c.args.q c.args.j c.step-step.result
    c.service_of-service.result c.machines.result c.args.before c.lower-least.result c.lower-least-2.result
    c.lower.result
    c.requires.within c.requires.there c.step-step.ensures c.machines.ensures c.service_of-service.ensures
    (service_known i c.step-step.result.process.0 c.service_of-service.result.0 c.args.inst.now.well_formed
    (step_known i c.args.mv.now.steps c.args.j c.step-step.result (within_known _ _ c.requires.within)
    c.requires.there c.step-step.ensures) c.service_of-service.ensures)
    c.lower-least.ensures c.lower-least-2.ensures c.lower.ensures
