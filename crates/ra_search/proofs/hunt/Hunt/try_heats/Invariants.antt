-- What a search keeps is kept so far.
use Rattle.ra_search.specs.Hunting.{HasHunted}
use Rattle.ra_search.proofs.hunt.Hunt.try_heats.Given as goal

abbrev pub invariant-loop : goal.invariant-loop
invariant-loop g l = HasHunted l.fn.self l.self
