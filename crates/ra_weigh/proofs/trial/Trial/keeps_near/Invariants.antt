-- The steps so far keep what is needed near.
use Rattle.ra_weigh.specs.Nearness.{KeepNear}
use Rattle.ra_weigh.specs.Trials.{tables_of, steps_of, after_of}
use Rattle.ra_weigh.proofs.trial.Trial.keeps_near.Given as goal

abbrev pub invariant-loop-j : goal.invariant-loop-j
invariant-loop-j l = KeepNear (tables_of l.self) (after_of l.self) (steps_of l.self) l.j
