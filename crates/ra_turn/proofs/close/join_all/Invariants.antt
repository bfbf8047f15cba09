use Rattle.ra_turn.proofs.Joining.{JoinedFrom}
use Rattle.ra_turn.proofs.close.join_all.Given as goal

abbrev pub invariant-loop-pass : goal.invariant-loop-pass
invariant-loop-pass g l = JoinedFrom l.turn l.passes.items l.fn.passes.items l.seat

abbrev pub decreases-loop-pass : goal.decreases-loop-pass
decreases-loop-pass g l = goal.left-loop-pass g l
