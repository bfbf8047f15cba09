use Rattle.ra_guards.proofs.GuardLemmas.{NoneJoined}
use Rattle.ra_guards.proofs.services.reads_service.Given as goal

abbrev pub invariant-loop-j : goal.invariant-loop-j
invariant-loop-j l = NoneJoined l.fn.inst.tables l.fn.mv.steps l.fn.service.0 l.j
