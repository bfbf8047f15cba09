-- The steps so far are taken back.
use Rattle.std.proofs.Common.{◌≡◌}
use Rattle.ra_moves.specs.Replacing.{after_steps, turned}
use Rattle.ra_repair.specs.Keeping.{StandsForKept}
use Rattle.ra_repair.proofs.following.go_back.Given as goal

abbrev pub invariant-loop-j : goal.invariant-loop-j
invariant-loop-j g l = record {
  stands : StandsForKept l.kept l.inst.tables l.start.items;
  made : l.kept.assignment.items ≡ after_steps l.fn.kept.assignment.items (turned l.mv.steps) l.j;
  penalty : l.kept.penalty ≡ l.fn.kept.penalty;
}
