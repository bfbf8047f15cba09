-- Each worker has an entry for each round so far, or all of its budget.
use Rattle.test_workers.specs.Rounds.{HaveAllMade, PlaysOn}
use Rattle.test_workers.proofs.rounds.round_robin.Given as goal

abbrev pub invariant-loop-round : goal.invariant-loop-round
invariant-loop-round l = record {
  made : HaveAllMade l.journal l._round;
  played : PlaysOn l.fn.journal l.journal l.fn.replicas.items l.replicas.items;
}
