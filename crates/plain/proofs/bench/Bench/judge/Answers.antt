use Rattle.std.proofs.Common.{ap}
use Rattle.ra_base.specs.declared.costs.Parts.{Parts}
use Rattle.ra_model.specs.Costs.{parts_of}
use Rattle.plain.proofs.Standing.{can_replay, replay_fits}
use Rattle.plain.proofs.bench.Bench.judge.Goals as goal

pub replay-requires-clause-can : goal.replay-requires-clause-can
replay-requires-clause-can c = can_replay _ _ _ c.args.inst.now.well_formed c.requires.start c.requires.can.before

pub parts-cost-requires-clause-fits : goal.parts-cost-requires-clause-fits
parts-cost-requires-clause-fits c =
    replay_fits _ _ _ _ c.args.inst.now.well_formed c.requires.start c.requires.can.before c.replay.ensures.items

pub judge_plainly-requires-clause-fits : goal.judge_plainly-requires-clause-fits
judge_plainly-requires-clause-fits c =
    replay_fits _ _ _ _ c.args.inst.now.well_formed c.requires.start c.requires.can.before c.replay.ensures.items

pub judge_plainly-requires-clause-before : goal.judge_plainly-requires-clause-before
unfolding parts_of
judge_plainly-requires-clause-before c = ap (λ (p : Parts). p.total) c.parts-cost.ensures.value
