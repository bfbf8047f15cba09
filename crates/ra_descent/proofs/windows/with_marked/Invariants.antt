-- The cheapest of the machines so far, and a mark at the next one.
use Rattle.std.proofs.Common.{◌≡◌, ◌+◌, ◌-◌, ◌<◌, ◌≤◌}
use Rattle.std.specs.Int.{bit_at}
use Rattle.ra_shift.specs.Conditions.{Lacks}
use Rattle.ra_descent.specs.Cheapest.{IsCheapest}
use Rattle.ra_descent.proofs.windows.with_marked.Given as goal

abbrev pub invariant-loop-place : goal.invariant-loop-place
invariant-loop-place l = record {
  within : l.place ≤ l.count;
  set : l.place < l.count → bit_at l.marks l.place ≡ 1;
  low : l.least.cost ≤ l.fn.best.cost;
  lacking : Lacks l.shift.world.now l.shift.process.0 l.lacking;
  least : IsCheapest l.shift.world.now l.shift.process.0 (l.first + l.place) l.least;
}

abbrev pub decreases-loop-place : goal.decreases-loop-place
decreases-loop-place l = l.count - l.place
