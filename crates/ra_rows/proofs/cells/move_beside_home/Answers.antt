-- What leaves one row comes to the other, but for the home row.
use Rattle.ra_rows.proofs.CellLemmas.{moved}
use Rattle.ra_rows.proofs.cells.move_beside_home.Goals as goal

pub returns : goal.returns
returns c = moved c.args.width c.args.column _ _ c.args.table.now.items _ _ c.leave_row.ensures c.enter_row.ensures
