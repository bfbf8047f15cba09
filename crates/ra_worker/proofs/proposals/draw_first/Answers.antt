use Rattle.std.proofs.Common.{◌∙◌, arith, rules}
use Rattle.ra_worker.proofs.ProposalLemmas.{ring_more}
use Rattle.ra_worker.proofs.proposals.draw_first.Goals as goal

pub loop-number-preserved : goal.loop-number-preserved
loop-number-preserved c = record {
  long = search rules;
  lot = c.draw-words.ensures.lot ∙ c.loop-number.invariant.lot;
  made = λ within. c.draw-words.ensures.drawn (omega (arith, within));
  words = ring_more c.args.lot.now c.loop-number.number c.loop-number.ring c.draw-words.result (omega (arith, c.loop-number-test.true, c.loop-number.invariant.long))
      c.loop-number.invariant.words c.draw-words.ensures.words;
}
