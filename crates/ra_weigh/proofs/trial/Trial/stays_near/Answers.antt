-- One step after another.
use Rattle.std.proofs.Common.{◌≡◌, length, ap, arith}
use Rattle.std.proofs.lemmas.Bool.{both_ways}
use Rattle.ra_model.specs.Numbers.{neighbourhood_of}
use Rattle.ra_weigh.specs.Trials.{tables_of, steps_of, after_of}
use Rattle.ra_weigh.specs.Nearness.{StaysNear}
use Rattle.ra_weigh.proofs.StepLemmas.{step_process, service_read, to_read, from_read, step_to, step_from}
use Rattle.ra_weigh.proofs.HoldLemmas.{told_true, told_false}
use Rattle.ra_weigh.proofs.NearLemmas.{stays_start, stays_next, stays_found, stays_left}
use Rattle.ra_weigh.proofs.trial.Trial.stays_near.Goals as goal

pub service_of-own-requires : goal.service_of-own-requires
service_of-own-requires c = grind (arith, step_process)

pub finds_one-requires-clause-to : goal.finds_one-requires-clause-to
finds_one-requires-clause-to c = grind (arith, step_to)

pub leaves_one-requires-clause-from : goal.leaves_one-requires-clause-from
leaves_one-requires-clause-from c = grind (arith, step_from)

pub loop-j-init : goal.loop-j-init
loop-j-init c = grind (arith, stays_start)

pub returns-then-not-finds_one : goal.returns-then-not-finds_one
returns-then-not-finds_one c =
    told_false (λ (stays : StaysNear (tables_of c.args.self.now) (after_of c.args.self.now) (steps_of c.args.self.now)
    c.args.s.0 c.args.need.0 (length (steps_of c.args.self.now))).
    both_ways c.finds_one.result c.if-not-finds_one.true (c.finds_one.ensures.1
    (stays_found _ _ _ c.args.s.0
    c.args.need.0 c.loop-j.j
    _ stays (omega (arith, c.loop-j-test.true, c.steps-j-end.ensures.value))
    (service_read (tables_of c.args.self.now)
    (steps_of c.args.self.now) c.loop-j.j c.step-step.ensures c.service_of-own.ensures)
    (ap (neighbourhood_of (tables_of c.args.self.now))
    (to_read (steps_of c.args.self.now) c.loop-j.j c.step-step.ensures)))))

pub returns-then-not-leaves_one : goal.returns-then-not-leaves_one
returns-then-not-leaves_one c =
    told_false (λ (stays : StaysNear (tables_of c.args.self.now) (after_of c.args.self.now) (steps_of c.args.self.now)
    c.args.s.0 c.args.need.0 (length (steps_of c.args.self.now))).
    both_ways c.leaves_one.result c.if-not-leaves_one.true (c.leaves_one.ensures.1
    (stays_left _ _ _ c.args.s.0
    c.args.need.0 c.loop-j.j
    _ stays (omega (arith, c.loop-j-test.true, c.steps-j-end.ensures.value))
    (service_read (tables_of c.args.self.now)
    (steps_of c.args.self.now) c.loop-j.j c.step-step.ensures c.service_of-own.ensures)
    (ap (neighbourhood_of (tables_of c.args.self.now))
    (from_read (steps_of c.args.self.now) c.loop-j.j c.step-step.ensures)))))

pub loop-j-preserved : goal.loop-j-preserved
loop-j-preserved c = grind (arith, stays_next, service_read, to_read, from_read)

pub returns : goal.returns
returns c = told_true (grind arith)
