use Rattle.std.proofs.Common.{length, ◌≤◌, ◌-◌}
use Rattle.ra_cases.proofs.texts.push_pieces.Given as goal

abbrev pub invariant-loop-at : goal.invariant-loop-at
invariant-loop-at l = l.at ≤ length l.pieces

abbrev pub decreases-loop-at : goal.decreases-loop-at
decreases-loop-at l = length l.pieces - l.at
