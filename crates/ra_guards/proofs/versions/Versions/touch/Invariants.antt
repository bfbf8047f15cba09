use Rattle.std.proofs.Common.{take}
use Rattle.ra_guards.specs.Kept.{IsTouched}
use Rattle.ra_guards.proofs.versions.Versions.touch.Given as goal

abbrev pub invariant-loop-k : goal.invariant-loop-k
invariant-loop-k l = IsTouched l.fn.self l.self (take l.k l.fn.writes) l.fn.version
