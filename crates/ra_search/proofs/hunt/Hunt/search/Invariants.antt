-- What a search keeps is kept so far, and less is left to try.
use Rattle.std.proofs.Common.{◌≤◌}
use Rattle.ra_search.specs.Hunting.{HasHunted}
use Rattle.ra_search.proofs.hunt.Hunt.search.Given as goal

abbrev pub invariant-slices : goal.invariant-slices
invariant-slices g l = HasHunted l.initial.self l.self × (l.left ≤ l.stretch.tries)

abbrev pub decreases-slices : goal.decreases-slices
decreases-slices g l = l.left
