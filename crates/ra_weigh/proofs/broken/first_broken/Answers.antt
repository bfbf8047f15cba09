use Rattle.std.proofs.Common.{arith}
use Rattle.ra_weigh.proofs.broken.first_broken.Goals as goal

pub returns : goal.returns
returns c = grind arith
