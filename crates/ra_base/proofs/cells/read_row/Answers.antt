-- A row begins at the place of its first column, and ends at that of the next row.
use Rattle.std.proofs.Common.{◌≡◌, ◌*◌, arith}
use Rattle.ra_base.proofs.Tables.{row_cell}
use Rattle.ra_base.proofs.cells.read_row.Goals as goal

pub returns-clause-each : goal.returns-clause-each
returns-clause-each c = λ r column.
    let start : c.place.result ≡ c.args.row * c.args.width = omega (arith, c.place.ensures) in
    rw (c.as_slice.ensures, start, c.place-2.ensures)
    (row_cell c.args.width c.args.row c.args.table.now.items r column)
