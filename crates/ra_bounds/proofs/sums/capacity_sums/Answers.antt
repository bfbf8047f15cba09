-- The sums begin at zero.
use Rattle.ra_model.specs.Numbers.{resource_count, capacity_of}
use Rattle.ra_bounds.proofs.TotalLemmas.{totals_none}
use Rattle.ra_bounds.proofs.sums.capacity_sums.Goals as goal

pub loop-m-init : goal.loop-m-init
loop-m-init c = totals_none (resource_count c.args.inst.now.tables) (capacity_of c.args.inst.now.tables)
    c.args.inst.now.well_formed.few_resources
