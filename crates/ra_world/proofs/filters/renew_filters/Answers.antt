-- The two machines of the step have their new numbers, and all others their old ones.
use Rattle.std.proofs.Common.{List}
use Rattle.ra_base.specs.declared.ids.Machine.{Machine}
use Rattle.ra_world.proofs.FilterTableLaws.{renewed_table}
use Rattle.ra_world.proofs.filters.renew_filters.Goals as goal

pub returns : goal.returns
returns c = λ (a b : List Machine) stand alike is.
    renewed_table c.args.inst.now.tables a b c.args.step.from.0 c.args.step.to.0 c.args.table.now.items
    c.renew_column.new.table.items c.renew_column-2.new.table.items alike is
    (c.renew_column.ensures.column b stand) (c.renew_column-2.ensures.column b stand)
