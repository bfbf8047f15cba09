-- Nothing so far.
use Rattle.std.proofs.Common.{◌≡◌, None}
use Rattle.ra_base.specs.Searches.{first}
use Rattle.ra_model.specs.Broken.{transient_test}
use Rattle.ra_weigh.specs.Trials.{tables_of, initial_of, after_of}
use Rattle.ra_weigh.proofs.trial.Trial.transient_by_flow.Given as goal

abbrev pub invariant-loop-r : goal.invariant-loop-r
invariant-loop-r l = first l.r (transient_test (tables_of l.self) (initial_of l.self) (after_of l.self) l.m.0) ≡ None
