-- The steps so far keep the service near the one that it needs.
use Rattle.ra_weigh.specs.Nearness.{StaysNear}
use Rattle.ra_weigh.specs.Trials.{tables_of, steps_of, after_of}
use Rattle.ra_weigh.proofs.trial.Trial.stays_near.Given as goal

abbrev pub invariant-loop-j : goal.invariant-loop-j
invariant-loop-j l = StaysNear (tables_of l.self) (after_of l.self) (steps_of l.self) l.s.0 l.need.0 l.j
