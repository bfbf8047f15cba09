-- No service of the steps so far is before the next one.
use Rattle.std.proofs.Common.{◌≤◌}
use Rattle.ra_base.specs.Sums.{is_named}
use Rattle.ra_model.specs.Numbers.{service_count}
use Rattle.ra_moves.specs.Touched.{service_in}
use Rattle.ra_weigh.specs.Searching.{ClearTo}
use Rattle.ra_weigh.specs.Trials.{tables_of, steps_of}
use Rattle.ra_weigh.proofs.trial.Trial.next_service.Given as goal

abbrev pub invariant-loop-j : goal.invariant-loop-j
invariant-loop-j l = record {
  from : l.low ≤ l.next;
  within : l.next ≤ service_count (tables_of l.self);
  moved : ClearTo (is_named l.j (service_in (tables_of l.self) (steps_of l.self))) l.low l.next;
}
