-- The instance stays.
use Rattle.std.proofs.Common.{◌≡◌}
use Rattle.ra_search.proofs.guides.Guides.follow.Given as goal

abbrev pub invariant-loop-j : goal.invariant-loop-j
invariant-loop-j l = l.self.inst ≡ l.initial.self.inst
