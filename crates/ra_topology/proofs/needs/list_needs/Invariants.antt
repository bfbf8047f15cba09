-- The dependencies of the services so far.
use Rattle.std.proofs.Common.{◌≡◌}
use Rattle.ra_model.specs.Numbers.{service_count, dependency_start}
use Rattle.ra_topology.specs.Places.{AreListed}
use Rattle.ra_topology.proofs.needs.list_needs.Given as goal

abbrev pub invariant-loop-s : goal.invariant-loop-s
invariant-loop-s l = record {
  listed : AreListed l.inst.tables l.s l.all.items l.ends.items;
  room : l.all.room ≡ dependency_start l.inst.tables (service_count l.inst.tables);
  end_room : l.ends.room ≡ l.count;
}
