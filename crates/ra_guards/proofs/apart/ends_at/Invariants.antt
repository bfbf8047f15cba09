use Rattle.ra_guards.proofs.GuardLemmas.{NoEnd}
use Rattle.ra_guards.proofs.apart.ends_at.Given as goal

abbrev pub invariant-loop-j : goal.invariant-loop-j
invariant-loop-j l = NoEnd l.fn.mv.steps l.fn.machine.0 l.j
