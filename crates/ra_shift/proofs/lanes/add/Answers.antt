use Rattle.std.proofs.Common.{refl, ◌+◌, ◌%◌, ◌^◌}
use Rattle.ra_shift.proofs.LaneLemmas.{HasLanes-zip2}
use Rattle.ra_shift.proofs.lanes.add.Goals as goal

pub returns : goal.returns
returns c = HasLanes-zip2 (λ a b. (a + b) % 2 ^ 32) c.args.left c.args.right _ c.fits-left.0 c.fits-right.0
    (λ k l. refl)
