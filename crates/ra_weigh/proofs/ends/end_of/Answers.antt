use Rattle.std.proofs.Common.{arith}
use Rattle.ra_weigh.proofs.MoveLemmas.{end_within, end_left_read, end_entered_read}
use Rattle.ra_weigh.proofs.ends.end_of.Goals as goal

pub step-requires-else-j-n : goal.step-requires-else-j-n
step-requires-else-j-n c = grind (arith, end_within)

pub returns-then-j-n : goal.returns-then-j-n
returns-then-j-n c = grind (arith, end_left_read)

pub returns-else-j-n : goal.returns-else-j-n
returns-else-j-n c = grind (arith, end_entered_read)
