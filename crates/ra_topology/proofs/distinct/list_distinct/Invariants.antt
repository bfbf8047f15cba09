-- The distinct needs of the services so far.
use Rattle.std.proofs.Common.{◌≡◌}
use Rattle.ra_model.specs.Numbers.{service_count, dependency_start}
use Rattle.ra_topology.specs.Places.{AreMarked, AreCut}
use Rattle.ra_topology.proofs.distinct.list_distinct.Given as goal

abbrev pub invariant-loop-s : goal.invariant-loop-s
invariant-loop-s l = record {
  marked : AreMarked l.inst.tables l.s 0 l.marks.items;
  cut : AreCut l.inst.tables l.s l.all.items l.ends.items;
  room : l.all.room ≡ dependency_start l.inst.tables (service_count l.inst.tables);
  end_room : l.ends.room ≡ l.count;
}
