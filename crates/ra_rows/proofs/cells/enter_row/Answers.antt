-- The home row keeps what it has.
use Rattle.std.proofs.Common.{arith}
use Rattle.ra_rows.proofs.CellLemmas.{more_at_home, more_away}
use Rattle.ra_rows.proofs.cells.enter_row.Goals as goal

pub returns-then-home-to : goal.returns-then-home-to
returns-then-home-to c =
    more_away _ _ c.args.home.0 c.args.to.0 _ _ _ (omega (arith, c.if-home-to.true)) c.add_to_cell.ensures

pub returns-else-home-to : goal.returns-else-home-to
returns-else-home-to c = more_at_home _ _ c.args.home.0 c.args.to.0 _ _ (omega (arith, c.if-home-to.false))
