-- No more passes flag a process than there are processes.
use Rattle.std.proofs.Common.{arith}
use Rattle.ra_pins.proofs.SearchLemmas.{count_within}
use Rattle.ra_pins.proofs.looks.find_pinned.Goals as goal

pub returns : goal.returns
returns g c =
    absurd (omega (arith, count_within, c.loop-t.invariant.flagged, c.loop-t-test.false, c.processes-t-end.ensures))
