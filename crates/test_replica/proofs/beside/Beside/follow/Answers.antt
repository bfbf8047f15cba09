use Rattle.std.proofs.Common.{ap}
use Rattle.ra_base.specs.declared.costs.Parts.{Parts}
use Rattle.ra_model.specs.Costs.{parts_of}
use Rattle.test_replica.proofs.DoneLaws.{done_unbroken, done_distinct}
use Rattle.test_replica.proofs.beside.Beside.follow.Goals as goal

pub judge_plainly-verdict-requires-clause-before : goal.judge_plainly-verdict-requires-clause-before
unfolding parts_of
judge_plainly-verdict-requires-clause-before g c =
    rw (c.instance-inst.ensures.value, c.initial-a0.ensures.value, c.args.self.now.same)
    (ap (λ (p : Parts). p.total) c.parts-before.ensures.value)

pub apply-requires-clause-distinct : goal.apply-requires-clause-distinct
apply-requires-clause-distinct g c = done_distinct _ _ _ _ _ _ _ c.judge_plainly-verdict.ensures.verdict c.in-Done.is

pub apply-requires-in-Done-clause-unbroken : goal.apply-requires-in-Done-clause-unbroken
apply-requires-in-Done-clause-unbroken g c =
    rw (c.instance-inst.ensures.value, c.initial-a0.ensures.value, c.args.self.now.same) at
    (done_unbroken _ _ _ _ _ _ _ c.judge_plainly-verdict.ensures.verdict c.in-Done.is)
