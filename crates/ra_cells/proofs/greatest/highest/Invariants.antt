-- No service has a count above the number, up to the top.
use Rattle.std.proofs.Common.{◌≡◌, ℕ, ◌<◌, ◌≤◌, true}
use Rattle.ra_cells.specs.Replaced.{is_free}
use Rattle.ra_cells.proofs.greatest.highest.Given as goal

abbrev pub invariant-loop-first : goal.invariant-loop-first
invariant-loop-first l = record {
  within : l.v ≤ l.top;
  above : (w : ℕ) → l.v < w → w ≤ l.top → is_free l.tallies.items l.first l.second l.third w ≡ true;
}

abbrev pub decreases-loop-first : goal.decreases-loop-first
decreases-loop-first l = l.v
