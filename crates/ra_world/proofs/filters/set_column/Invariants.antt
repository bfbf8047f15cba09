-- The rows so far are set.
use Rattle.std.proofs.Common.{List}
use Rattle.ra_base.specs.declared.ids.Machine.{Machine}
use Rattle.ra_rows.specs.Rows.{IsUsageRow}
use Rattle.ra_world.specs.FilterTables.{capped_row, IsColumnSet}
use Rattle.std.proofs.Common.{◌≡◌, length}
use Rattle.ra_world.proofs.filters.set_column.Given as goal

abbrev pub invariant-loop-j : goal.invariant-loop-j
invariant-loop-j l = record {
  grid : length l.table.items ≡ length l.initial.table.items;
  set : (a : List Machine) → IsUsageRow l.inst.tables a l.m.0 l.row →
      IsColumnSet l.inst.tables l.m.0 l.j (capped_row l.inst.tables a l.m.0) l.initial.table.items l.table.items;
}
