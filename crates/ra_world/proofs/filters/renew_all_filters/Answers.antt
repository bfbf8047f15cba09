-- One machine after another.
use Rattle.std.proofs.Common.{List, ◌∙◌}
use Rattle.ra_base.specs.declared.ids.Machine.{Machine}
use Rattle.ra_world.proofs.FilterTableLaws.{next_column}
use Rattle.ra_world.proofs.filters.renew_all_filters.Goals as goal

pub loop-m-preserved : goal.loop-m-preserved
loop-m-preserved c = record {
  grid = c.renew_column.ensures.many ∙ c.loop-m.invariant.grid;
  value = λ (a : List Machine) stand.
      next_column c.args.inst.now.tables a c.loop-m.m c.loop-m.table.items c.renew_column.new.table.items
      (c.loop-m.invariant.value a stand) (c.renew_column.ensures.column a stand);
}
