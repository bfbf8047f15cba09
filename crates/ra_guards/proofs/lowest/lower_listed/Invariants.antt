use Rattle.ra_guards.specs.Kept.{version_in}
use Rattle.ra_guards.specs.Lowest.{IsLower, IsReadIn}
use Rattle.ra_guards.proofs.lowest.lower_listed.Given as goal

abbrev pub invariant-loop-k : goal.invariant-loop-k
invariant-loop-k l = IsLower l.fn.inst.tables (version_in l.fn.versions) l.fn.q
    (IsReadIn l.fn.inst.tables l.fn.mv.steps l.fn.services l.k) l.fn.before l.least
