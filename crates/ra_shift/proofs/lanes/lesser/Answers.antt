use Rattle.ra_shift.proofs.LaneLemmas.{lesser_lane}
use Rattle.ra_shift.proofs.lanes.lesser.Goals as goal

pub returns : goal.returns
returns c k l = lesser_lane c.args.left c.args.right 8 k c.fits-left.0 c.fits-right.0 l
