use Rattle.ra_words.specs.Words.{texts}
use Rattle.ra_words.proofs.LotLaws.{IsLeft}
use Rattle.ra_words.proofs.lots.fit_together.Given as goal

abbrev pub invariant-loop-k : goal.invariant-loop-k
invariant-loop-k l = IsLeft (texts l.words) l.place l.k l.left
