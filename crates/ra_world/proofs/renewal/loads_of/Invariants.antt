-- The costs of the machines so far.
use Rattle.std.proofs.Common.{◌≡◌, List, length}
use Rattle.ra_base.specs.declared.ids.Machine.{Machine}
use Rattle.ra_model.specs.Numbers.{machine_count}
use Rattle.ra_model.specs.MachineCosts.{machine_load}
use Rattle.ra_rows.specs.Rows.{StandFor}
use Rattle.ra_world.specs.Costs.{AreCosts}
use Rattle.ra_world.proofs.renewal.loads_of.Given as goal

abbrev pub invariant-loop-m : goal.invariant-loop-m
invariant-loop-m l = record {
  room : l.costs.room ≡ machine_count l.inst.tables;
  so_far : length l.costs.items ≡ l.m;
  value : (a : List Machine) → StandFor l.rows a → AreCosts l.costs.items l.m (machine_load l.inst.tables a);
}
