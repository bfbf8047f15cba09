-- The instance stays.
use Rattle.std.proofs.Common.{◌≡◌}
use Rattle.ra_sketch.proofs.sketch.Sketch.make.Given as goal

abbrev pub invariant-loop-m : goal.invariant-loop-m
invariant-loop-m l = l.sketch ≡ l.world.tables
