-- No member so far is far from what it needs.
use Rattle.std.proofs.Common.{◌≡◌, None}
use Rattle.ra_base.specs.Searches.{first}
use Rattle.ra_weigh.specs.Nearness.{far_member}
use Rattle.ra_weigh.specs.Trials.{tables_of, after_of}
use Rattle.ra_weigh.proofs.trial.Trial.pair_dependency.Given as goal

abbrev pub invariant-loop-x : goal.invariant-loop-x
invariant-loop-x l = first l.x (far_member (tables_of l.self) (after_of l.self) l.s.0 l.k l.members) ≡ None
