use Rattle.ra_guards.proofs.GuardLemmas.{NoneMeets}
use Rattle.ra_guards.proofs.apart.keeps_apart.Given as goal

abbrev pub invariant-loop-k : goal.invariant-loop-k
invariant-loop-k l = NoneMeets l.fn.inst.tables l.fn.mv.steps l.fn.other.steps l.k
