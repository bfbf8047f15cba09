-- The instance and the start stay.
use Rattle.ra_search.specs.Moving.{Reaches}
use Rattle.ra_search.proofs.searcher.Searcher.settle_part.Given as goal

abbrev pub invariant-loop-p : goal.invariant-loop-p
invariant-loop-p g l = Reaches l.initial.self.world l.self.world
