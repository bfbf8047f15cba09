-- The first rows were copied.
use Rattle.std.proofs.Common.{◌≡◌, length, take}
use Rattle.ra_model.specs.Numbers.{process_count}
use Rattle.ra_edit.proofs.tables.processes_of.Given as goal

abbrev pub invariant-loop-p : goal.invariant-loop-p
invariant-loop-p l = record {
  items : l.rows.items ≡ take l.p l.inst.tables.raw.processes.items;
  size : length l.rows.items ≡ l.p;
  room : l.rows.room ≡ process_count l.inst.tables;
}
