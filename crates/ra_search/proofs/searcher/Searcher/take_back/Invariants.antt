-- The instance and the start stay.
use Rattle.std.proofs.Common.{◌≤◌, length}
use Rattle.ra_search.specs.Moving.{Reaches}
use Rattle.ra_search.proofs.searcher.Searcher.take_back.Given as goal

abbrev pub invariant-moves : goal.invariant-moves
invariant-moves g l = Reaches l.initial.self.world l.self.world × (l.left ≤ length l.self.made.items)

abbrev pub decreases-moves : goal.decreases-moves
decreases-moves g l = l.left
