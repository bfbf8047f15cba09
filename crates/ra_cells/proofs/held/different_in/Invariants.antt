-- The different labels so far.
use Rattle.std.proofs.Common.{◌≡◌, ◌≤◌}
use Rattle.ra_cells.specs.Held.{different}
use Rattle.ra_cells.proofs.held.different_in.Given as goal

abbrev pub invariant-loop-k : goal.invariant-loop-k
invariant-loop-k l = record { count : l.count ≡ different l.labels.items l.start l.k; few : l.count ≤ l.k }
