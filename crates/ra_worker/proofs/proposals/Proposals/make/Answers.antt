use Rattle.ra_journal.specs.Entries.{worker_count}
use Rattle.ra_worker.proofs.ProposalLemmas.{drawn_first}
use Rattle.ra_worker.proofs.proposals.Proposals.make.Goals as goal

pub lot-lot-requires : goal.lot-lot-requires
unfolding worker_count
lot-lot-requires c = c.requires

pub make-draws-requires : goal.make-draws-requires
unfolding worker_count
make-draws-requires c = rw c.lot-lot.ensures (c.args.lots.now.fitting.each c.args.worker c.requires)

pub invariant_of-result : goal.invariant_of-result
invariant_of-result c = record {
  drawn = drawn_first c.args.lots.now c.args.worker c.lot-lot.result.now c.make-draws.result c.draw_first-ring.new.draws
      c.draw_first-ring.result c.requires c.lot-lot.ensures c.make-draws.ensures.lot c.draw_first-ring.ensures.lot
      c.draw_first-ring.ensures.made c.draw_first-ring.ensures.words;
}
