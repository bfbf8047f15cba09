-- The home row keeps what it has.
use Rattle.std.proofs.Common.{arith}
use Rattle.ra_rows.proofs.CellLemmas.{more_at_home, more_away}
use Rattle.ra_rows.proofs.cells.leave_row.Goals as goal

pub returns-then-home-from : goal.returns-then-home-from
returns-then-home-from c =
    more_away _ _ c.args.home.0 c.args.from.0 _ _ _ (omega (arith, c.if-home-from.true)) c.take_from_cell.ensures

pub returns-else-home-from : goal.returns-else-home-from
returns-else-home-from c = more_at_home _ _ c.args.home.0 c.args.from.0 _ _ (omega (arith, c.if-home-from.false))
