use Rattle.std.proofs.Common.{◌≡◌}
use Rattle.ra_moves.specs.Replacing.{after_steps, turned}
use Rattle.ra_moves.proofs.replace.undo.Given as goal

abbrev pub invariant-loop-i : goal.invariant-loop-i
invariant-loop-i l = (l.a.items ≡ after_steps l.fn.a.items (turned l.mv.steps) l.i) × (l.a.room ≡ l.fn.a.room)
