-- No end so far is in the location.
use Rattle.std.proofs.Common.{◌≡◌, false}
use Rattle.ra_base.specs.Sums.{is_named}
use Rattle.ra_weigh.specs.Marks.{end_location}
use Rattle.ra_weigh.specs.Trials.{tables_of, steps_of}
use Rattle.ra_weigh.proofs.trial.Trial.is_label_before.Given as goal

abbrev pub invariant-loop-j : goal.invariant-loop-j
invariant-loop-j l = is_named l.j (end_location (tables_of l.self) (steps_of l.self)) l.label ≡ false
