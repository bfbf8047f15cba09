-- One cell is raised.
use Rattle.std.proofs.Common.{refl}
use Rattle.ra_rows.proofs.CellLemmas.{cell_raised}
use Rattle.ra_rows.proofs.cells.add_to_cell.Goals as goal

pub returns : goal.returns
returns c = cell_raised c.args.width c.args.row c.args.column _ c.args.amount c.args.table.now.items
    c.add_to_cell.new.table.items c.requires.column c.requires.place refl c.add_to_cell.ensures
