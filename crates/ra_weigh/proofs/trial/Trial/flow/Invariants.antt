-- What the steps so far bring and take.
use Rattle.ra_model.specs.Usage.{use_share}
use Rattle.ra_weigh.specs.Flowing.{HasFlow}
use Rattle.ra_weigh.specs.Trials.{tables_of, steps_of}
use Rattle.ra_weigh.proofs.trial.Trial.flow.Given as goal

abbrev pub invariant-loop-j : goal.invariant-loop-j
invariant-loop-j l =
    HasFlow (tables_of l.self) (use_share (tables_of l.self) l.m.0)
    (steps_of l.self) l.j l.come.amounts.now l.gone.amounts.now
