use Rattle.std.proofs.Common.{◌≡◌, ◌∙◌, length, sym, arith}
use Rattle.ra_base.proofs.Named.{is_named_none, is_named_found}
use Rattle.ra_moves.specs.Touched.{moves_service}
use Rattle.ra_guards.proofs.GuardLemmas.{step_known, service_at, unnamed_more}
use Rattle.ra_guards.proofs.services.moves_service.Goals as goal

pub loop-j-init : goal.loop-j-init
loop-j-init c = is_named_none _ c.args.service.0

pub service_of-requires : goal.service_of-requires
service_of-requires c = step_known c.args.inst.now.tables c.args.mv.now.steps c.loop-j.j c.step.result c.requires.known
    (omega (arith, c.loop-j-test.true, c.steps-j-end.ensures.value)) c.step.ensures

pub returns-then-service_of-service : goal.returns-then-service_of-service
unfolding moves_service
returns-then-service_of-service c =
    sym (is_named_found c.loop-j.j (length c.args.mv.now.steps) _
    c.args.service.0 (omega (arith, c.loop-j-test.true, c.steps-j-end.ensures.value)) c.loop-j.invariant
    (service_at c.args.inst.now.tables c.args.mv.now.steps c.loop-j.j c.step.result c.service_of.result.0
    c.step.ensures c.service_of.ensures ∙ c.if-service_of-service.true))

pub loop-j-preserved : goal.loop-j-preserved
loop-j-preserved c =
    unnamed_more c.loop-j.j c.service_of.result.0 _
    c.args.service.0 c.loop-j.invariant
    (service_at c.args.inst.now.tables c.args.mv.now.steps c.loop-j.j c.step.result c.service_of.result.0 c.step.ensures
    c.service_of.ensures) c.if-service_of-service.false

pub returns : goal.returns
unfolding moves_service
returns c =
    let all : c.loop-j.j ≡ length c.args.mv.now.steps =
    omega (arith, c.loop-j-test.false, c.steps-j-end.ensures.value) in
    sym (rw all at c.loop-j.invariant)
