-- The entries so far are seen.
use Rattle.plain.proofs.Clauses.{SeenBelow}
use Rattle.plain.proofs.places.is_placed.Given as goal

abbrev pub invariant-loop-n : goal.invariant-loop-n
invariant-loop-n l = SeenBelow l.entries l.e.worker l.e.q l.n
