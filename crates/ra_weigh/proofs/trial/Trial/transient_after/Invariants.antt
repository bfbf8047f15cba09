-- What the steps so far add and take.
use Rattle.std.proofs.Common.{◌^◌}
use Rattle.ra_model.specs.Usage.{transient_share}
use Rattle.ra_weigh.specs.Trials.{tables_of, initial_of, steps_of}
use Rattle.ra_weigh.proofs.FlowLemmas.{Flows}
use Rattle.ra_weigh.proofs.trial.Trial.transient_after.Given as goal

abbrev pub invariant-loop-j : goal.invariant-loop-j
invariant-loop-j l = Flows (transient_share (tables_of l.self) (initial_of l.self) l.m.0 l.r.0) (steps_of l.self) l.j
    (2 ^ 32) l.came l.went
