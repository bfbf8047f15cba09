use Rattle.ra_weigh.proofs.MovedNext.{counts_none, filled_none}
use Rattle.ra_weigh.proofs.counts.counts_of.Goals as goal

pub loop-j-init : goal.loop-j-init
loop-j-init c = record { filled = filled_none _ _; counts = counts_none _ _ }
