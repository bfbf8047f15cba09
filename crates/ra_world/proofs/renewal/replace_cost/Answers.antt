-- The old cost is a part of the sum.
use Rattle.ra_world.proofs.RenewalLaws.{replaced}
use Rattle.ra_world.proofs.renewal.replace_cost.Goals as goal

pub overflow_sub-result : goal.overflow_sub-result
overflow_sub-result c =
    (replaced c.args.costs.now.items c.args.m.0 c.get-old.result c.args.cost c.args.sum c.requires.machine
    c.get-old.ensures c.requires.sum).0
