-- What is kept is that of the assignment after the steps so far.
use Rattle.std.proofs.Common.{◌≡◌}
use Rattle.ra_moves.specs.Replacing.{after_steps}
use Rattle.ra_repair.specs.Keeping.{KeepsPenalty}
use Rattle.ra_repair.proofs.following.follow.Given as goal

abbrev pub invariant-loop-j : goal.invariant-loop-j
invariant-loop-j g l = record {
  keeps : KeepsPenalty l.kept l.inst.tables l.start.items;
  made : l.kept.assignment.items ≡ after_steps l.fn.kept.assignment.items l.mv.steps l.j;
}
