-- One machine more.
use Rattle.ra_descent.proofs.CheapestLemmas.{offer_fits}
use Rattle.ra_descent.proofs.windows.with_each.Goals as goal

pub cost_below-requires-clause-bound : goal.cost_below-requires-clause-bound
cost_below-requires-clause-bound c = offer_fits _ _ c.args.shift.now.sound c.loop-m.invariant.offer
