-- The list costs no more than at the beginning of the turn.
use Rattle.ra_search.specs.Moving.{HasSettled}
use Rattle.ra_search.proofs.searcher.Searcher.turn.Given as goal

abbrev pub invariant-loop-p : goal.invariant-loop-p
invariant-loop-p g l = HasSettled l.initial.self.world l.self.world
