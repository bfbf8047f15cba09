use Rattle.std.proofs.Common.{◌≡◌, ◌+◌, length}
use Rattle.ra_base.specs.Searches.{first}
use Rattle.ra_check.specs.Stamps.{seat_of, AreMarksBelow, AreStamped, crowd_test}
use Rattle.ra_check.proofs.conflict.crowded.Given as goal

abbrev pub invariant-loop-k : goal.invariant-loop-k
invariant-loop-k l = record {
  stamped : AreStamped l.marks.items (length l.initial.marks.items) l.stamp l.k (seat_of l.a.items l.processes);
  below : AreMarksBelow l.marks.items (length l.initial.marks.items) (l.stamp + 1);
  least : l.least ≡ first (length l.initial.marks.items) (crowd_test (seat_of l.a.items l.processes) l.k);
}
