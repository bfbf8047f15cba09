-- A weight for each resource so far.
use Rattle.std.proofs.Common.{◌≡◌, length}
use Rattle.ra_model.specs.Numbers.{resource_count}
use Rattle.ra_sketch.proofs.sketch.weights_of.Given as goal

abbrev pub invariant-loop-r : goal.invariant-loop-r
invariant-loop-r l = record {
  so_far : length l.weights.items ≡ l.r;
  room : l.weights.room ≡ resource_count l.inst.tables;
}
