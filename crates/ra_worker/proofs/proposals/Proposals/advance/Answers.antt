use Rattle.std.proofs.Common.{arith, rules}
use Rattle.ra_journal.specs.Entries.{worker_count}
use Rattle.ra_worker.proofs.ProposalLemmas.{drawn_more, lot_budget}
use Rattle.ra_worker.proofs.proposals.Proposals.advance.Goals as goal

pub lot-lot-requires : goal.lot-lot-requires
unfolding worker_count
lot-lot-requires c = c.args.self.now.drawn.worker

pub draw-words-requires-clause-drawn : goal.draw-words-requires-clause-drawn
draw-words-requires-clause-drawn c = λ left. c.args.self.now.drawn.made
    (omega (
      arith,
      left,
      lot_budget c.args.self.now.lots.now c.args.self.now.worker c.lot-lot.result.now c.lot-lot.ensures,
    ))

pub invariant_of-self : goal.invariant_of-self
invariant_of-self c = record {
  drawn = drawn_more c.args.self.now.lots.now c.args.self.now.worker c.args.self.now.number c.lot-lot.result.now
      c.args.self.now.draws c.draw-words.new.draws c.args.self.now.ring c.draw-words.result c.args.self.now.drawn
      c.requires (search rules) c.lot-lot.ensures c.draw-words.ensures.lot c.draw-words.ensures.drawn
      c.draw-words.ensures.words;
}
