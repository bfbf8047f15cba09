use Rattle.std.proofs.Common.{length}
use Rattle.ra_cases.proofs.texts.push_swapped.Given as goal

abbrev pub decreases-loop-rest : goal.decreases-loop-rest
decreases-loop-rest l = length l.rest
