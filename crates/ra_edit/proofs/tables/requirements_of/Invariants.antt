-- The first places were copied.
use Rattle.std.proofs.Common.{◌≡◌, ◌*◌, length, take}
use Rattle.ra_model.specs.Numbers.{process_count, resource_count}
use Rattle.ra_edit.proofs.tables.requirements_of.Given as goal

abbrev pub invariant-loop-k : goal.invariant-loop-k
invariant-loop-k g l = record {
  items : l.table.items ≡ take l.k l.inst.tables.raw.requirements.items;
  size : length l.table.items ≡ l.k;
  room : l.table.room ≡ process_count l.inst.tables * resource_count l.inst.tables;
}
