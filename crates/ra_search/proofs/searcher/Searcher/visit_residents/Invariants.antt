-- The instance and the start stay.
use Rattle.ra_search.specs.Moving.{Reaches}
use Rattle.ra_search.proofs.searcher.Searcher.visit_residents.Given as goal

abbrev pub invariant-loop : goal.invariant-loop
invariant-loop g l = Reaches l.initial.self.world l.self.world
