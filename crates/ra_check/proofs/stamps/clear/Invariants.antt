use Rattle.std.proofs.Common.{length}
use Rattle.ra_check.proofs.StampLemmas.{AreClear}
use Rattle.ra_check.proofs.stamps.clear.Given as goal

abbrev pub invariant-loop-x : goal.invariant-loop-x
invariant-loop-x l = AreClear l.marks.items (length l.initial.marks.items) l.x
