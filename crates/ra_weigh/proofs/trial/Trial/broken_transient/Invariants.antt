-- Nothing so far.
use Rattle.std.proofs.Common.{◌-◌}
use Rattle.ra_model.specs.Numbers.{machine_count}
use Rattle.ra_model.specs.Broken.{row_transient}
use Rattle.ra_weigh.specs.Searching.{Sought}
use Rattle.ra_weigh.specs.Trials.{tables_of, initial_of, after_of}
use Rattle.ra_weigh.proofs.trial.Trial.broken_transient.Given as goal

abbrev pub invariant-loop-low : goal.invariant-loop-low
invariant-loop-low l =
    Sought (machine_count (tables_of l.self)) (row_transient (tables_of l.self) (initial_of l.self) (after_of l.self))
    l.low

abbrev pub decreases-loop-low : goal.decreases-loop-low
decreases-loop-low l = machine_count (tables_of l.self) - l.low
