-- The costs of the machines so far.
use Rattle.std.proofs.Common.{◌≡◌, List, length}
use Rattle.ra_base.specs.declared.ids.Machine.{Machine}
use Rattle.ra_model.specs.Numbers.{machine_count}
use Rattle.ra_model.specs.MachineCosts.{machine_load}
use Rattle.ra_rows.specs.Rows.{StandFor}
use Rattle.ra_world.proofs.RenewalLaws.{AreCostsTo}
use Rattle.ra_world.proofs.renewal.renew_all_loads.Given as goal

abbrev pub invariant-loop-m : goal.invariant-loop-m
invariant-loop-m l = record {
  long : length l.loads.items ≡ machine_count l.inst.tables;
  value : (a : List Machine) → StandFor l.rows a →
      AreCostsTo l.loads.items (machine_count l.inst.tables) l.m (machine_load l.inst.tables a);
}
