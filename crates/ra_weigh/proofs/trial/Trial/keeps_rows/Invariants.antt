-- The machines that the steps so far enter have the capacity.
use Rattle.ra_weigh.specs.Trials.{tables_of, initial_of, steps_of, after_of}
use Rattle.ra_weigh.proofs.FitLemmas.{RowsFit}
use Rattle.ra_weigh.proofs.trial.Trial.keeps_rows.Given as goal

abbrev pub invariant-loop-j : goal.invariant-loop-j
invariant-loop-j l = RowsFit (tables_of l.self) (initial_of l.self) (after_of l.self) (steps_of l.self) l.j
