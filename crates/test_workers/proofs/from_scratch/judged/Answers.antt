use Rattle.std.proofs.Common.{◌≡◌, ap}
use Rattle.ra_base.specs.declared.costs.Parts.{Parts}
use Rattle.ra_model.specs.Costs.{parts_of}
use Rattle.test_workers.proofs.from_scratch.judged.Goals as goal

pub judge_plainly-verdict-requires-clause-before : goal.judge_plainly-verdict-requires-clause-before
unfolding parts_of
judge_plainly-verdict-requires-clause-before g c = ap (λ (p : Parts). p.total) c.parts-before.ensures.value
