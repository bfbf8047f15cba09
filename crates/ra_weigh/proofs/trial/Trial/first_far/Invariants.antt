-- The steps so far spare each service before the next one, which is far from what it needs.
use Rattle.std.proofs.Common.{◌≤◌}
use Rattle.ra_model.specs.Numbers.{service_count}
use Rattle.ra_weigh.specs.Trials.{tables_of, steps_of, after_of}
use Rattle.ra_weigh.proofs.FarLemmas.{SpareBelow, FarAt}
use Rattle.ra_weigh.proofs.trial.Trial.first_far.Given as goal

abbrev pub invariant-loop-j : goal.invariant-loop-j
invariant-loop-j l = record {
  within : l.next ≤ service_count (tables_of l.self);
  spare : SpareBelow (tables_of l.self) (after_of l.self) (steps_of l.self) l.j l.next;
  far : FarAt (tables_of l.self) (after_of l.self) l.next;
}
