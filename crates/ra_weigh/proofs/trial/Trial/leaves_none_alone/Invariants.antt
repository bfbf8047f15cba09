-- No dependant so far is near.
use Rattle.ra_weigh.specs.Trials.{tables_of, after_of}
use Rattle.ra_weigh.proofs.NearLemmas.{NoneNear}
use Rattle.ra_weigh.proofs.trial.Trial.leaves_none_alone.Given as goal

abbrev pub invariant-loop-k : goal.invariant-loop-k
invariant-loop-k l = NoneNear (tables_of l.self) (after_of l.self) l.label l.dependants l.k
