use Rattle.std.proofs.Common.{refl, ◌+◌, ◌%◌, ◌^◌}
use Rattle.ra_token.proofs.Lanes.{HasSixtyFourLanes-zip2}
use Rattle.ra_token.proofs.short.plus.Goals as goal

pub returns : goal.returns
returns c = HasSixtyFourLanes-zip2 (λ a b. (a + b) % 2 ^ 16) c.args.left c.args.right _ c.fits-left.0 c.fits-right.0
    (λ k l. refl)
