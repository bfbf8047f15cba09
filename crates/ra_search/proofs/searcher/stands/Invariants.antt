-- The steps so far stand.
use Rattle.ra_search.proofs.StepLemmas.{StandsTo}
use Rattle.ra_search.proofs.searcher.stands.Given as goal

abbrev pub invariant-loop-j : goal.invariant-loop-j
invariant-loop-j l = StandsTo l.world l.mv.steps l.j
