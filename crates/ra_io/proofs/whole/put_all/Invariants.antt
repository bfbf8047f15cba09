use Rattle.std.proofs.Common.{length, ◌-◌}
use Rattle.ra_io.proofs.Putting.{HasPut}
use Rattle.ra_io.proofs.whole.put_all.Given as goal

abbrev pub invariant-loop-at : goal.invariant-loop-at
invariant-loop-at g l =
    HasPut (g.S.Sink.taken l.initial.sink) (g.S.Sink.taken l.sink) (g.S.Sink.faults l.initial.sink)
    (g.S.Sink.faults l.sink) l.text l.at

abbrev pub decreases-loop-at : goal.decreases-loop-at
decreases-loop-at g l = length l.text - l.at
