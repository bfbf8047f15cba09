-- The sums begin at zero.
use Rattle.ra_model.specs.Numbers.{resource_count, safety_of}
use Rattle.ra_bounds.proofs.TotalLemmas.{totals_none}
use Rattle.ra_bounds.proofs.sums.safety_sums.Goals as goal

pub loop-m-init : goal.loop-m-init
loop-m-init c = totals_none (resource_count c.args.inst.now.tables) (safety_of c.args.inst.now.tables)
    c.args.inst.now.well_formed.few_resources
