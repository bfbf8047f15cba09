use Rattle.ra_guards.proofs.GuardLemmas.{WithinBelow}
use Rattle.test_replica.proofs.guards.are_within.Given as goal

abbrev pub invariant-loop-j : goal.invariant-loop-j
invariant-loop-j l = WithinBelow l.fn.inst.tables l.fn.mv.steps l.j
