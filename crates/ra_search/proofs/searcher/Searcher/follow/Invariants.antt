-- The instance and the start stay.
use Rattle.ra_search.specs.Moving.{Reaches}
use Rattle.ra_search.proofs.searcher.Searcher.follow.Given as goal

abbrev pub invariant-loop-k : goal.invariant-loop-k
invariant-loop-k g l = Reaches l.initial.self.world l.self.world
