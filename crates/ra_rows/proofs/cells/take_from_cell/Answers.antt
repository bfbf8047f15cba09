-- One cell is lowered.
use Rattle.std.proofs.Common.{arith}
use Rattle.ra_rows.proofs.CellLemmas.{cell_lowered}
use Rattle.ra_rows.proofs.cells.take_from_cell.Goals as goal

pub returns : goal.returns
returns c = cell_lowered c.args.width c.args.row c.args.column _ c.args.amount
    c.args.table.now.items c.set.new.self.items c.requires.column c.requires.place
    (omega (arith, c.read_cell.ensures, c.from.ensures, c.requires.enough))
    (rw c.place.ensures at c.set.ensures.items)
