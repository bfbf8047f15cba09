-- The ways of the machines so far.
use Rattle.std.proofs.Common.{◌≡◌, length}
use Rattle.ra_model.specs.Numbers.{machine_count, way_cost_of}
use Rattle.ra_world.specs.Costs.{AreCosts}
use Rattle.ra_world.proofs.renewal.stays_of.Given as goal

abbrev pub invariant-loop-m : goal.invariant-loop-m
invariant-loop-m l = record {
  room : l.stays.room ≡ machine_count l.inst.tables;
  so_far : length l.stays.items ≡ l.m;
  value : AreCosts l.stays.items l.m (λ m. way_cost_of l.inst.tables m m);
}
