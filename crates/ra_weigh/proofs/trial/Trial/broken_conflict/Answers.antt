-- The search goes from one place that the move touches to the next.
use Rattle.std.proofs.Common.{sym, arith}
use Rattle.ra_model.specs.Broken.{broken_conflict}
use Rattle.ra_weigh.proofs.SeekLemmas.{sought_start, sought_on, sought_found, sought_all}
use Rattle.ra_weigh.proofs.trial.Trial.broken_conflict.Goals as goal

pub loop-low-init : goal.loop-low-init
loop-low-init c = grind (arith, sought_start)

pub returns-in-Some : goal.returns-in-Some
unfolding broken_conflict
returns-in-Some c = grind (arith, sought_found)

pub loop-low-preserved : goal.loop-low-preserved
loop-low-preserved c = grind (arith, sought_on)

pub returns : goal.returns
unfolding broken_conflict
returns c = grind (arith, sought_all)
