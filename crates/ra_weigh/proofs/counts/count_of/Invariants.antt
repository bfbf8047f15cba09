-- The count is that after the first steps.
use Rattle.std.proofs.Common.{◌≡◌}
use Rattle.ra_moves.specs.Replacing.{after_steps}
use Rattle.ra_weigh.proofs.counts.count_of.Given as goal
use Rattle.ra_model.specs.Situations.{moved_at}

abbrev pub invariant-loop-j : goal.invariant-loop-j
invariant-loop-j l = l.after ≡ moved_at (record l.world { here = after_steps l.world.here l.mv.steps l.j }) l.s.0
