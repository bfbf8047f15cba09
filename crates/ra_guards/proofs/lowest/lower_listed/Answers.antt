use Rattle.ra_guards.proofs.LowestLemmas.{listed_more, service_there}
use Rattle.ra_guards.proofs.lowest.lower_listed.Goals as goal

pub loop-k-preserved : goal.loop-k-preserved
loop-k-preserved c = listed_more c.args.inst.now.tables _ c.args.q c.args.mv.now.steps
    c.args.services.now c.loop-k.k _ c.args.before
    c.loop-k.least c.lower_service-least.result c.loop-k.invariant (service_there c.args.services.now c.loop-k.k)
    c.lower_service-least.ensures
