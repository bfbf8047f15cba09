-- The steps so far are the same.
use Rattle.plain.proofs.SameMoves.{SameFirst}
use Rattle.plain.proofs.comparing.has_same_steps.Given as goal

abbrev pub invariant-loop-j : goal.invariant-loop-j
invariant-loop-j l = SameFirst l.one.steps l.other.steps l.j
