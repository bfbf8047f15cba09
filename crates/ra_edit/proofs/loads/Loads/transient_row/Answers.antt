-- The cells of the row are those of the machine.
use Rattle.std.proofs.Common.{◌∙◌}
use Rattle.ra_model.specs.Numbers.{machine_count}
use Rattle.ra_edit.proofs.LoadLaws.{row_there, transient_row_kept}
use Rattle.ra_edit.proofs.loads.Loads.transient_row.Goals as goal

pub read_row-requires : goal.read_row-requires
read_row-requires c =
    rw c.resources.ensures (row_there (machine_count c.args.inst.now.tables) _ _ c.requires.grid c.requires.machine)

pub returns-clause-one_each : goal.returns-clause-one_each
returns-clause-one_each c = c.read_row.ensures.one_each ∙ c.resources.ensures

pub returns-clause-row : goal.returns-clause-row
returns-clause-row c = λ d same are. transient_row_kept
    c.args.m.0 same are (c.read_row.ensures.one_each ∙ c.resources.ensures)
    (rw c.resources.ensures at c.read_row.ensures.each)
