-- The resources so far are within their capacities.
use Rattle.ra_weigh.specs.Holding.{FitsBelow}
use Rattle.ra_weigh.specs.Trials.{tables_of, initial_of, after_of}
use Rattle.ra_weigh.proofs.trial.Trial.fits_by_flows.Given as goal

abbrev pub invariant-loop-r : goal.invariant-loop-r
invariant-loop-r l = FitsBelow (tables_of l.self) (initial_of l.self) (after_of l.self) l.m.0 l.r
