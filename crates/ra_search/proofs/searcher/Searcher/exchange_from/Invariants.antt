-- No move was made so far.
use Rattle.std.proofs.Common.{◌≡◌}
use Rattle.ra_search.proofs.searcher.Searcher.exchange_from.Given as goal

abbrev pub invariant-loop : goal.invariant-loop
invariant-loop g l = l.self.world ≡ l.initial.self.world
