-- The instance and the start stay, and what is left to try grows less.
use Rattle.std.proofs.Common.{◌≤◌}
use Rattle.ra_search.specs.Moving.{Reaches}
use Rattle.ra_search.proofs.searcher.Searcher.search.Given as goal

abbrev pub invariant-loop : goal.invariant-loop
invariant-loop g l = Reaches l.initial.self.world l.self.world

abbrev pub invariant-tries : goal.invariant-tries
invariant-tries g l = Reaches l.initial.self.world l.self.world × (l.left ≤ l.stretch.tries)

abbrev pub decreases-tries : goal.decreases-tries
decreases-tries g l = l.left
