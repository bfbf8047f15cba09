use Rattle.std.proofs.Common.{◌≤◌, length, ap, arith}
use Rattle.ra_base.specs.declared.costs.Parts.{Parts}
use Rattle.ra_model.specs.Costs.{parts_of}
use Rattle.plain.proofs.Standing.{can_replay, replay_fits}
use Rattle.plain.proofs.bench.Bench.plan.Goals as goal

pub replay-requires-clause-can : goal.replay-requires-clause-can
replay-requires-clause-can c = can_replay _ _ _ c.args.inst.now.well_formed c.requires.start c.requires.can.before

pub copy_to-requires : goal.copy_to-requires
copy_to-requires c =
    let fits = replay_fits _ _ _ _ c.args.inst.now.well_formed c.requires.start c.requires.can.before
    c.replay.ensures.items in
    let room : length c.replay.new.a.items ≤ c.args.self.now.other.room =
    omega (arith, fits.one_each, c.requires.made.other) in
    room

pub parts-cost-requires-clause-fits : goal.parts-cost-requires-clause-fits
parts-cost-requires-clause-fits c =
    replay_fits _ _ _ _ c.args.inst.now.well_formed c.requires.start c.requires.can.before c.replay.ensures.items

pub plan_plainly-planned-requires-clause-fits : goal.plan_plainly-planned-requires-clause-fits
plan_plainly-planned-requires-clause-fits c =
    replay_fits _ _ _ _ c.args.inst.now.well_formed c.requires.start c.requires.can.before c.replay.ensures.items

pub plan_plainly-planned-requires-clause-before : goal.plan_plainly-planned-requires-clause-before
unfolding parts_of
plan_plainly-planned-requires-clause-before c = ap (λ (p : Parts). p.total) c.parts-cost.ensures.value

pub returns-clause-planned : goal.returns-clause-planned
returns-clause-planned c =
    rw (c.replay.ensures.items, c.words_of-words.ensures, c.allowed_of-allowed.ensures, c.drawing.ensures) at
    c.plan_plainly-planned.ensures.planned.move
