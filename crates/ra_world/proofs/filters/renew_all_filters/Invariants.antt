-- The columns of the machines so far.
use Rattle.std.proofs.Common.{◌≡◌, ◌*◌, List, length}
use Rattle.ra_base.specs.declared.ids.Machine.{Machine}
use Rattle.ra_rows.specs.Rows.{StandFor}
use Rattle.ra_world.specs.FilterTables.{filter_row_count, filter_width}
use Rattle.ra_world.proofs.FilterTableLaws.{IsRowTableTo}
use Rattle.ra_world.proofs.filters.renew_all_filters.Given as goal

abbrev pub invariant-loop-m : goal.invariant-loop-m
invariant-loop-m l = record {
  grid : length l.table.items ≡ filter_row_count l.inst.tables * filter_width l.inst.tables;
  value : (a : List Machine) → StandFor l.rows a → IsRowTableTo l.inst.tables a l.m l.table.items;
}
