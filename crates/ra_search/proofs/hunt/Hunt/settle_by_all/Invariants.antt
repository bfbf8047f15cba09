-- What a search keeps is kept so far.
use Rattle.ra_search.specs.Hunting.{HasHunted}
use Rattle.ra_search.proofs.hunt.Hunt.settle_by_all.Given as goal

abbrev pub invariant-loop : goal.invariant-loop
invariant-loop g l = HasHunted l.initial.self l.self
