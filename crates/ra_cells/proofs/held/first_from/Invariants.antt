-- The labels before the lower place are less, and those from the higher one on are not.
use Rattle.std.proofs.Common.{ℕ, ◌-◌, ◌<◌, ◌≤◌, get_or}
use Rattle.ra_cells.proofs.held.first_from.Given as goal

abbrev pub invariant-loop-low : goal.invariant-loop-low
invariant-loop-low l = record {
  from : l.start ≤ l.low;
  ordered : l.low ≤ l.high;
  within : l.high ≤ l.end;
  below : (k : ℕ) → l.start ≤ k → k < l.low → get_or l.labels.items k 0 < l.x;
  above : (k : ℕ) → l.high ≤ k → k < l.end → l.x ≤ get_or l.labels.items k 0;
}

abbrev pub decreases-loop-low : goal.decreases-loop-low
decreases-loop-low l = l.high - l.low
