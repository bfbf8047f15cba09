-- All dependencies of the service are looked at.
use Rattle.ra_topology.proofs.CountLemmas.{marked_next}
use Rattle.ra_topology.proofs.DistinctLemmas.{distinct_none}
use Rattle.ra_topology.proofs.distinct.distinct_of.Goals as goal

pub loop-k-init : goal.loop-k-init
loop-k-init c = record {
  marked = c.requires.marked;
  row = rw c.new-row.ensures.items (distinct_none c.args.inst.now.tables c.args.s);
}

pub returns-clause-marked : goal.returns-clause-marked
returns-clause-marked c =
    marked_next c.args.inst.now.tables c.args.s c.loop-k.k c.loop-k.marks.items c.loop-k.invariant.marked
