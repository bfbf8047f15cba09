-- One more step.
use Rattle.std.proofs.Common.{arith}
use Rattle.ra_weigh.specs.Trials.{steps_of}
use Rattle.ra_weigh.proofs.SeekLemmas.{clear_none, clear_more}
use Rattle.ra_weigh.proofs.StepLemmas.{to_read}
use Rattle.ra_weigh.proofs.trial.Trial.next_entered.Goals as goal

pub loop-j-init : goal.loop-j-init
loop-j-init c = grind (arith, clear_none)

pub loop-j-preserved : goal.loop-j-preserved
loop-j-preserved c = grind (arith, clear_more, to_read)
