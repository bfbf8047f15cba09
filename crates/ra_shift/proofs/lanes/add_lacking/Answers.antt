use Rattle.std.proofs.Common.{◌+◌, ◌%◌, ◌^◌, arith}
use Rattle.ra_shift.proofs.LaneLemmas.{HasLanes-zip2, HasLanes-lacking}
use Rattle.ra_shift.proofs.lanes.add_lacking.Goals as goal

pub returns : goal.returns
returns c =
    let lacks = HasLanes-lacking c.args.amount c.args.row (omega (arith, c.ranges.amount.fits)) c.fits-row.0
    c.fits-row.1 in
    HasLanes-zip2 (λ a b. (a + b) % 2 ^ 32) c.args.sums _ _ c.fits-sums.0 lacks.many
    (λ k l. rw (lacks.each k l))
