-- The places of the machine so far are set.
use Rattle.std.proofs.Common.{◌≡◌, ◌-◌, ◌%◌}
use Rattle.ra_model.specs.Numbers.{machine_count}
use Rattle.ra_world.specs.FilterTables.{filter_width, ArePlacesSet}
use Rattle.ra_world.proofs.filters.set_places.Given as goal

abbrev pub invariant-loop-place : goal.invariant-loop-place
invariant-loop-place l = record {
  at : l.place % machine_count l.inst.tables ≡ l.fn.m.0;
  set : ArePlacesSet l.inst.tables l.fn.m.0 l.j l.place l.number l.initial.table.items l.table.items;
}

abbrev pub decreases-loop-place : goal.decreases-loop-place
decreases-loop-place l = filter_width l.inst.tables - l.place
