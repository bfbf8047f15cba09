use Rattle.ra_descent.proofs.CheapestLemmas.{offer_fits}
use Rattle.ra_descent.proofs.windows.with_window.Goals as goal

pub marks_by-requires-clause-bound : goal.marks_by-requires-clause-bound
marks_by-requires-clause-bound c = offer_fits _ _ c.args.shift.now.sound c.requires.best.offer
