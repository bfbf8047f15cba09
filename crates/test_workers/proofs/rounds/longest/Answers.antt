use Rattle.std.proofs.Common.{arith}
use Rattle.ra_journal.specs.Entries.{worker_count}
use Rattle.ra_worker.proofs.ProposalLemmas.{lot_budget}
use Rattle.test_workers.proofs.RoundLemmas.{most_more}
use Rattle.test_workers.proofs.rounds.longest.Goals as goal

pub loop-w-preserved : goal.loop-w-preserved
loop-w-preserved c = most_more c.args.lots.now c.loop-w.w c.loop-w.longest c.lot.result.now.budget
    c.larger-longest.result c.loop-w.invariant (lot_budget c.args.lots.now c.loop-w.w c.lot.result.now c.lot.ensures)
    c.larger-longest.ensures.first c.larger-longest.ensures.second

pub returns : goal.returns
unfolding worker_count
returns c = λ w there. c.loop-w.invariant w (omega (arith, there, c.loop-w-test.false, c.len-w-end.ensures.value))
