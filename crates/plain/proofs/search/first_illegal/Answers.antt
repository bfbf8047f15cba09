use Rattle.plain.proofs.Clauses.{legal_more}
use Rattle.plain.proofs.search.first_illegal.Goals as goal

pub loop-j-preserved : goal.loop-j-preserved
loop-j-preserved c = record {
  legal = legal_more _ _ _ (c.is_legal.ensures.legal c.if-not-is_legal.false) c.loop-j.invariant.legal;
  bench = c.is_legal.ensures.kept;
}
