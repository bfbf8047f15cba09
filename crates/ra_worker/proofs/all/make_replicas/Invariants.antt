-- The replicas of the workers so far.
use Rattle.ra_journal.specs.Openings.{opening}
use Rattle.ra_worker.proofs.AllLemmas.{AreFirst}
use Rattle.ra_worker.proofs.all.make_replicas.Given as goal

abbrev pub invariant-loop-worker : goal.invariant-loop-worker
invariant-loop-worker l = AreFirst (opening l.inst.tables l.a0.items l.lots) l.worker l.replicas.items
