-- What a search keeps is kept so far.
use Rattle.ra_search.specs.Hunting.{HasHunted}
use Rattle.ra_search.proofs.hunt.Hunt.take_all.Given as goal

abbrev pub invariant-loop-k : goal.invariant-loop-k
invariant-loop-k g l = HasHunted l.fn.self l.self
