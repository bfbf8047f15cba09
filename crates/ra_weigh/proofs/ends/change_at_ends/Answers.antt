-- One more end.
use Rattle.std.proofs.Common.{◌≡◌, sym, arith}
use Rattle.ra_base.specs.Sums.{fresh}
use Rattle.ra_base.proofs.Sums.{total_none, total_more}
use Rattle.ra_moves.specs.Replacing.{applied}
use Rattle.ra_moves.specs.Values.{end_count, end_in}
use Rattle.ra_weigh.specs.PlaceCosts.{row_cost}
use Rattle.ra_weigh.proofs.ends.change_at_ends.Goals as goal

pub loop-j-init : goal.loop-j-init
loop-j-init c = grind (arith, total_none)

pub loop-j-preserved : goal.loop-j-preserved
loop-j-preserved c = grind (arith, total_more)

pub returns : goal.returns
unfolding end_count
returns c = grind arith
