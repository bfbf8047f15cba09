-- Nothing so far.
use Rattle.std.proofs.Common.{◌-◌}
use Rattle.ra_model.specs.Numbers.{service_count}
use Rattle.ra_model.specs.Broken.{spread_test}
use Rattle.ra_weigh.specs.Searching.{Sought}
use Rattle.ra_weigh.specs.Trials.{tables_of, after_of}
use Rattle.ra_weigh.proofs.trial.Trial.broken_spread.Given as goal

abbrev pub invariant-loop-low : goal.invariant-loop-low
invariant-loop-low l =
    Sought (service_count (tables_of l.self)) (spread_test (tables_of l.self) (after_of l.self)) l.low

abbrev pub decreases-loop-low : goal.decreases-loop-low
decreases-loop-low l = service_count (tables_of l.self) - l.low
