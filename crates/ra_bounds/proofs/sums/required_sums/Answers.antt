-- The sums begin at zero.
use Rattle.ra_model.specs.Numbers.{resource_count, requirement_of}
use Rattle.ra_bounds.proofs.TotalLemmas.{totals_none}
use Rattle.ra_bounds.proofs.sums.required_sums.Goals as goal

pub loop-p-init : goal.loop-p-init
loop-p-init g c = totals_none (resource_count c.args.inst.now.tables) (requirement_of c.args.inst.now.tables)
    c.args.inst.now.well_formed.few_resources
