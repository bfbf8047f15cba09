-- Nothing is broken where the steps so far lead.
use Rattle.ra_model.specs.Broken.{spread_test}
use Rattle.ra_moves.specs.Touched.{service_in}
use Rattle.ra_weigh.specs.Trials.{tables_of, steps_of, after_of}
use Rattle.ra_weigh.proofs.HoldLemmas.{NoneAt}
use Rattle.ra_weigh.proofs.trial.Trial.keeps_spread.Given as goal

abbrev pub invariant-loop-j : goal.invariant-loop-j
invariant-loop-j l =
    NoneAt (spread_test (tables_of l.self) (after_of l.self)) (service_in (tables_of l.self) (steps_of l.self)) l.j
