-- The processes that were looked at since the last move.
use Rattle.std.proofs.Common.{◌≡◌, ◌+◌, ◌*◌, ◌<◌, ◌≤◌}
use Rattle.ra_model.specs.Situations.{cost_at}
use Rattle.ra_descent.proofs.TurnLemmas.{AreSettled}
use Rattle.ra_descent.proofs.descent.descend.Given as goal

abbrev pub invariant-loop-left : goal.invariant-loop-left
invariant-loop-left g l = record {
  next : l.next < l.processes;
  left : l.left ≤ l.processes;
  settled : AreSettled l.world l.processes l.next l.left;
  same : l.world ≡ record l.fn.world { here = l.world.here };
  no_dearer : cost_at l.world ≤ cost_at l.fn.world;
}

abbrev pub decreases-loop-left : goal.decreases-loop-left
decreases-loop-left g l = cost_at l.world * (l.processes + 1) + l.left
