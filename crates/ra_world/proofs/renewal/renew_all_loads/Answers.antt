-- One machine after another.
use Rattle.std.proofs.Common.{ℕ, List, ap, length, arith}
use Rattle.std.proofs.Math.ListN.{length-set}
use Rattle.ra_base.specs.declared.ids.Machine.{Machine}
use Rattle.ra_model.specs.Numbers.{machine_count}
use Rattle.ra_model.specs.MachineCosts.{machine_load}
use Rattle.ra_world.proofs.RenewalLaws.{none_renewed, next_renewed, all_renewed}
use Rattle.ra_world.proofs.renewal.renew_all_loads.Goals as goal

pub loop-m-init : goal.loop-m-init
loop-m-init c = record {
  long = c.requires.one_each;
  value = λ (a : List Machine) stand. none_renewed (machine_load c.args.inst.now.tables a) _ _ c.requires.one_each;
}

pub loop-m-preserved : goal.loop-m-preserved
loop-m-preserved c = record {
  long = omega (arith, length-set {A = ℕ}, ap length c.set.ensures.items);
  value = λ (a : List Machine) stand.
      next_renewed (machine_load c.args.inst.now.tables a) (machine_count c.args.inst.now.tables) c.loop-m.m
      (omega (arith, c.machines-m-end.ensures)) (c.loop-m.invariant.value a stand) c.set.ensures.items
      (c.load_of.ensures.value a stand);
}

pub returns : goal.returns
returns c = λ (a : List Machine) stand.
    all_renewed (machine_load c.args.inst.now.tables a) (machine_count c.args.inst.now.tables) c.loop-m.m
    (omega (arith, c.machines-m-end.ensures)) (c.loop-m.invariant.value a stand)
