use Rattle.ra_shift.proofs.LaneLemmas.{HasLanes-splat}
use Rattle.ra_shift.proofs.lanes.nothing.Goals as goal

pub returns : goal.returns
returns c = HasLanes-splat 0
