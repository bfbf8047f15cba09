-- Nothing is broken where the steps so far lead.
use Rattle.ra_model.specs.Broken.{closed_test}
use Rattle.ra_moves.specs.Steps.{process_in}
use Rattle.ra_weigh.specs.Trials.{tables_of, initial_of, steps_of, after_of}
use Rattle.ra_weigh.proofs.HoldLemmas.{NoneAt}
use Rattle.ra_weigh.proofs.trial.Trial.keeps_closed.Given as goal

abbrev pub invariant-loop-j : goal.invariant-loop-j
invariant-loop-j l =
    NoneAt (closed_test (tables_of l.self) (initial_of l.self) (after_of l.self)) (process_in (steps_of l.self)) l.j
