use Rattle.std.proofs.Common.{refl}
use Rattle.ra_journal.specs.States.{state}
use Rattle.ra_worker.proofs.restoring.restore.Goals as goal

pub loop-at-init : goal.loop-at-init
unfolding state
loop-at-init c = record { here = c.requires.at_start; room = refl }
