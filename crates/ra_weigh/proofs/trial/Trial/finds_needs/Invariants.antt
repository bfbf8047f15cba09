-- The needs so far are found.
use Rattle.ra_weigh.specs.Trials.{tables_of, after_of}
use Rattle.ra_weigh.proofs.NearLemmas.{NeedsFound}
use Rattle.ra_weigh.proofs.trial.Trial.finds_needs.Given as goal

abbrev pub invariant-loop-k : goal.invariant-loop-k
invariant-loop-k l = NeedsFound (tables_of l.self) (after_of l.self) l.needs l.label l.k
