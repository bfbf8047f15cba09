use Rattle.ra_shift.proofs.LaneLemmas.{above_by_halves}
use Rattle.ra_shift.proofs.lanes.are_large.Goals as goal

pub returns : goal.returns
returns c =
    let halves = above_by_halves c.args.sums c.low_half.result c.high_half.result c.lesser.result c.args.limit
    c.low_half.ensures c.high_half.ensures c.lesser.ensures in
    (λ t. halves.0 (c.are_above.ensures.0 t), λ above. c.are_above.ensures.1 (halves.1 above))
