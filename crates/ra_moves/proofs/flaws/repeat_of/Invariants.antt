-- Nothing so far.
use Rattle.std.proofs.Common.{◌≡◌, None}
use Rattle.ra_base.specs.Searches.{first}
use Rattle.ra_moves.specs.Judging.{repeat_test}
use Rattle.ra_moves.proofs.flaws.repeat_of.Given as goal

abbrev pub invariant-loop-j : goal.invariant-loop-j
invariant-loop-j l = first l.j (repeat_test l.mv.steps) ≡ None
