-- What the steps so far add and take.
use Rattle.ra_model.specs.Services.{of_service}
use Rattle.ra_weigh.specs.Marks.{has_mark}
use Rattle.ra_weigh.specs.Trials.{tables_of, steps_of}
use Rattle.ra_weigh.proofs.FlowLemmas.{Flows}
use Rattle.ra_weigh.proofs.trial.Trial.count_from.Given as goal

abbrev pub invariant-loop-j : goal.invariant-loop-j
invariant-loop-j l = Flows (of_service (tables_of l.self) l.s.0 (has_mark (tables_of l.self) l.mark l.x))
    (steps_of l.self) l.j 1 l.came l.went
