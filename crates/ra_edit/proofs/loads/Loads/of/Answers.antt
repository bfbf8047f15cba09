-- The tables begin as zeros, and each process is counted.
use Rattle.ra_edit.proofs.LoadLaws.{counted_none}
use Rattle.ra_edit.proofs.loads.Loads.of.Goals as goal

pub loop-p-init : goal.loop-p-init
loop-p-init c = counted_none c.in_ok-used.ensures c.in_ok-between.ensures (cc (c.machines.ensures, c.resources.ensures))
