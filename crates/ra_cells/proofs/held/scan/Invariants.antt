-- The labels so far.
use Rattle.std.proofs.Common.{◌≡◌, ◌≤◌}
use Rattle.ra_cells.specs.Held.{labels_held}
use Rattle.ra_cells.proofs.held.scan.Given as goal

abbrev pub invariant-loop-k : goal.invariant-loop-k
invariant-loop-k l = record { count : l.count ≡ labels_held l.labels.items l.start l.k l.x; few : l.count ≤ l.k }
