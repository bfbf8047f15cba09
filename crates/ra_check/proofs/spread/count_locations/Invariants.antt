use Rattle.std.proofs.Common.{◌≡◌, ◌+◌, ◌≤◌, length}
use Rattle.ra_base.specs.Sums.{count, is_named}
use Rattle.ra_check.specs.Stamps.{site_of, AreMarksBelow, AreStamped}
use Rattle.ra_check.proofs.spread.count_locations.Given as goal

abbrev pub invariant-loop-k : goal.invariant-loop-k
invariant-loop-k l = record {
  stamped : AreStamped l.marks.items (length l.initial.marks.items) l.stamp l.k
      (site_of l.places.locations l.a.items l.processes);
  below : AreMarksBelow l.marks.items (length l.initial.marks.items) (l.stamp + 1);
  count : l.has ≡ count (length l.initial.marks.items)
      (is_named l.k (site_of l.places.locations l.a.items l.processes));
  few : l.has ≤ l.k;
}
