-- The instance stays.
use Rattle.std.proofs.Common.{◌≡◌}
use Rattle.ra_search.proofs.guides.Guides.renew.Given as goal

abbrev pub invariant-loop-m : goal.invariant-loop-m
invariant-loop-m l = l.self.inst ≡ l.initial.self.inst
