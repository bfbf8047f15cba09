use Rattle.ra_guards.specs.Kept.{version_in}
use Rattle.ra_guards.specs.Lowest.{IsLower, IsReadBelow}
use Rattle.ra_guards.proofs.lowest.least_read.Given as goal

abbrev pub invariant-loop-j : goal.invariant-loop-j
invariant-loop-j l = IsLower l.fn.inst.tables (version_in l.fn.versions) l.fn.q
    (IsReadBelow l.fn.inst.tables l.fn.mv.steps l.j) l.initial.least l.least
