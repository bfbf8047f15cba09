-- The machines read are those of the process.
use Rattle.ra_model.specs.Costs.{way_share}
use Rattle.ra_check.proofs.ways.way_share.Goals as goal

pub returns : goal.returns
unfolding way_share
returns c = rw (c.machine_of-at.ensures, c.machine_of-from.ensures) at c.move_cost.ensures
