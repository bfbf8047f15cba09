use Rattle.std.proofs.Common.{ap, arith}
use Rattle.ra_journal.specs.Entries.{worker_count}
use Rattle.ra_worker.specs.Core.{worker_of_event}
use Rattle.test_workers.proofs.PlayLemmas.{named_more}
use Rattle.test_workers.proofs.playing.are_named.Goals as goal

pub returns-then-worker-len-clause-only : goal.returns-then-worker-len-clause-only
unfolding worker_count
returns-then-worker-len-clause-only c =
    λ named. absurd
    (omega (
      arith,
      named.each c.loop-n.n (omega (arith, c.loop-n-test.true, c.len-n-end.ensures.value)),
      ap worker_of_event c.event_of-event.ensures,
      c.worker.ensures,
      c.len.ensures.value,
      c.if-worker-len.true,
    ))

pub loop-n-preserved : goal.loop-n-preserved
unfolding worker_count
loop-n-preserved c = named_more c.args.lots.now c.args.events.now.items c.loop-n.n c.worker.result
    c.event_of-event.result c.loop-n.invariant c.event_of-event.ensures c.worker.ensures
    (omega (arith, c.len.ensures.value, c.if-worker-len.false))
