-- No machine that the steps so far enter is before the next one.
use Rattle.std.proofs.Common.{◌≤◌}
use Rattle.ra_base.specs.Sums.{is_named}
use Rattle.ra_model.specs.Numbers.{machine_count}
use Rattle.ra_moves.specs.Steps.{to_in}
use Rattle.ra_weigh.specs.Searching.{ClearTo}
use Rattle.ra_weigh.specs.Trials.{tables_of, steps_of}
use Rattle.ra_weigh.proofs.trial.Trial.next_entered.Given as goal

abbrev pub invariant-loop-j : goal.invariant-loop-j
invariant-loop-j l = record {
  from : l.low ≤ l.next;
  within : l.next ≤ machine_count (tables_of l.self);
  entered : ClearTo (is_named l.j (to_in (steps_of l.self))) l.low l.next;
}
