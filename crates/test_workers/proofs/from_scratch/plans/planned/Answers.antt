use Rattle.std.proofs.Common.{◌≡◌, ap}
use Rattle.ra_base.specs.declared.costs.Parts.{Parts}
use Rattle.ra_model.specs.Costs.{parts_of}
use Rattle.test_workers.proofs.from_scratch.plans.planned.Goals as goal

pub plan_plainly-planned-requires-clause-before : goal.plan_plainly-planned-requires-clause-before
unfolding parts_of
plan_plainly-planned-requires-clause-before g c = ap (λ (p : Parts). p.total) c.parts-before.ensures.value
