-- What a search keeps is kept so far.
use Rattle.ra_search.specs.Hunting.{HasHunted}
use Rattle.ra_search.proofs.hunt.Hunt.cool.Given as goal

abbrev pub invariant-loop-j : goal.invariant-loop-j
invariant-loop-j g l = HasHunted l.initial.self l.self
