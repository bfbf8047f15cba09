use Rattle.std.proofs.Common.{ap, arith}
use Rattle.ra_journal.specs.Entries.{worker_count}
use Rattle.ra_journal.specs.Openings.{opening}
use Rattle.ra_worker.specs.Replicas.{Progress}
use Rattle.ra_worker.proofs.AllLemmas.{first_more, first_all}
use Rattle.ra_worker.proofs.all.make_replicas.Goals as goal

pub make-requires-clause-worker : goal.make-requires-clause-worker
unfolding worker_count
make-requires-clause-worker c = omega (arith, c.loop-worker-test.true, c.len-worker-end.ensures.value)

pub loop-worker-preserved : goal.loop-worker-preserved
loop-worker-preserved c =
    rw c.in_ok-push.ensures.items
    (first_more (opening c.args.inst.now.tables c.args.a0.now.items c.args.lots.now) c.loop-worker.worker
    c.loop-worker.replicas.items c.in_ok-replica.replica c.loop-worker.invariant (ap (λ (r : Progress). r.worker) c.in_ok-replica.ensures.value)
    c.in_ok-replica.ensures.at)

pub returns : goal.returns
unfolding worker_count
returns c = λ h. first_all (opening c.args.inst.now.tables c.args.a0.now.items c.args.lots.now) c.loop-worker.worker
    c.loop-worker.replicas.items h c.loop-worker.invariant
    (omega (arith, c.loop-worker-test.false, c.loop-worker.auto.worker-end, c.len-worker-end.ensures.value))
