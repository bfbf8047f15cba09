use Rattle.std.proofs.Common.{ap}
use Rattle.ra_base.specs.declared.costs.Parts.{Parts}
use Rattle.ra_model.specs.Costs.{parts_of}
use Rattle.test_replica.proofs.tests.plans.planned_plainly.Goals as goal

pub plan_plainly-requires-clause-before : goal.plan_plainly-requires-clause-before
unfolding parts_of
plan_plainly-requires-clause-before g c =
    rw (c.instance-inst.ensures.value, c.initial-a0.ensures.value, c.assignment-a.ensures.value)
    (ap (λ (p : Parts). p.total) c.parts-cost.ensures.value)
