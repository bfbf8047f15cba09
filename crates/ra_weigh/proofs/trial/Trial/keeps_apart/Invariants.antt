-- No process of the steps so far enters a machine that has another one of its service.
use Rattle.ra_weigh.specs.Trials.{tables_of, steps_of, after_of}
use Rattle.ra_weigh.proofs.HoldLemmas.{NoConflict}
use Rattle.ra_weigh.proofs.trial.Trial.keeps_apart.Given as goal

abbrev pub invariant-loop-j : goal.invariant-loop-j
invariant-loop-j l = NoConflict (tables_of l.self) (after_of l.self) (steps_of l.self) l.j
