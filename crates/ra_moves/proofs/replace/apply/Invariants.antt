use Rattle.std.proofs.Common.{◌≡◌}
use Rattle.ra_moves.specs.Replacing.{after_steps}
use Rattle.ra_moves.proofs.replace.apply.Given as goal

abbrev pub invariant-loop-i : goal.invariant-loop-i
invariant-loop-i l = (l.a.items ≡ after_steps l.fn.a.items l.mv.steps l.i) × (l.a.room ≡ l.fn.a.room)
