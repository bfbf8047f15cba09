use Rattle.std.proofs.Common.{◌*◌}
use Rattle.ra_shift.proofs.WindowLemmas.{AreMarks}
use Rattle.ra_shift.proofs.blocks.marks_of.Given as goal

-- The small sums of the blocks so far are marked.
abbrev pub invariant-loop-number : goal.invariant-loop-number
invariant-loop-number l = AreMarks l.sums l.limit l.marks (l.number * 16)
