-- The list costs no more than before the first turn.
use Rattle.ra_search.specs.Moving.{HasSettled}
use Rattle.ra_search.proofs.searcher.Searcher.settle.Given as goal

abbrev pub invariant-loop : goal.invariant-loop
invariant-loop g l = HasSettled l.initial.self.world l.self.world
