-- The services of the first dependencies.
use Rattle.ra_topology.specs.Lists.{AreDistinct}
use Rattle.ra_topology.specs.Places.{AreMarked}
use Rattle.ra_topology.proofs.distinct.distinct_of.Given as goal

abbrev pub invariant-loop-k : goal.invariant-loop-k
invariant-loop-k l = record {
  marked : AreMarked l.inst.tables l.s l.k l.marks.items;
  row : AreDistinct l.inst.tables l.s l.k l.row.items;
}
