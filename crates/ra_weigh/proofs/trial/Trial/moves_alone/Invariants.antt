-- No other step so far moves one of the service.
use Rattle.ra_weigh.specs.Flowing.{MoveAlone}
use Rattle.ra_weigh.specs.Trials.{tables_of, steps_of}
use Rattle.ra_weigh.proofs.trial.Trial.moves_alone.Given as goal

abbrev pub invariant-loop-k : goal.invariant-loop-k
invariant-loop-k l = MoveAlone (tables_of l.self) (steps_of l.self) l.j l.s.0 l.k
