-- What leaves one row comes to the other.
use Rattle.ra_rows.proofs.CellLemmas.{moved}
use Rattle.ra_rows.proofs.cells.move_amount.Goals as goal

pub returns : goal.returns
returns c = moved c.args.width c.args.column _ _ c.args.table.now.items _ _ c.take_from_cell.ensures
    c.add_to_cell.ensures
