use Rattle.std.proofs.Common.{ap, ◌∙◌, arith}
use Rattle.ra_weigh.proofs.MoveLemmas.{after_zero}
use Rattle.ra_weigh.proofs.MovedNext.{count_made}
use Rattle.ra_weigh.proofs.counts.count_of.Goals as goal
use Rattle.ra_model.specs.Situations.{moved_at}

pub loop-j-init : goal.loop-j-init
loop-j-init c = grind (arith, after_zero)

pub returns : goal.returns
returns c = grind (arith, count_made)
