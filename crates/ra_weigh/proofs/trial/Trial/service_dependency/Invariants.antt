-- Nothing so far.
use Rattle.std.proofs.Common.{◌≡◌, None}
use Rattle.ra_base.specs.Searches.{first}
use Rattle.ra_model.specs.Broken.{pair_dependency}
use Rattle.ra_weigh.specs.Trials.{tables_of, after_of}
use Rattle.ra_weigh.proofs.trial.Trial.service_dependency.Given as goal

abbrev pub invariant-loop-k : goal.invariant-loop-k
invariant-loop-k l = first l.k (pair_dependency (tables_of l.self) (after_of l.self) l.s.0) ≡ None
