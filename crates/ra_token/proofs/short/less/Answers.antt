use Rattle.ra_token.proofs.Lanes.{HasSixtyFourLanes-less}
use Rattle.ra_token.proofs.short.less.Goals as goal

pub returns : goal.returns
returns c = HasSixtyFourLanes-less c.args.left c.args.right c.fits-left.0 c.fits-right.0 c.fits-left.1 c.fits-right.1
