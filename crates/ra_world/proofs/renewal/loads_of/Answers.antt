-- Each machine adds its cost.
use Rattle.std.proofs.Common.{List, ℕ, arith, ◌≡◌, ◌∙◌, ap, length}
use Rattle.ra_base.specs.declared.ids.Machine.{Machine}
use Rattle.ra_world.proofs.RenewalLaws.{one_longer, pushed, no_costs}
use Rattle.ra_model.specs.Numbers.{machine_count}
use Rattle.ra_world.proofs.renewal.loads_of.Goals as goal

pub loop-m-init : goal.loop-m-init
loop-m-init c = record {
  room = omega (arith, c.in_ok-costs.ensures.room, c.machines.ensures);
  so_far = ap (length {A = ℕ}) c.in_ok-costs.ensures.items;
  value = λ (a : List Machine) stand. no_costs _ c.in_ok-costs.ensures.items;
}

pub loop-m-preserved : goal.loop-m-preserved
loop-m-preserved c = record {
  room = c.push.ensures.room ∙ c.loop-m.invariant.room;
  so_far = one_longer _ _ c.push.ensures.items c.loop-m.invariant.so_far;
  value = λ (a : List Machine) stand.
      pushed c.push.ensures.items (c.loop-m.invariant.value a stand) (c.load_of.ensures.value a stand);
}

pub push-requires : goal.push-requires
push-requires c =
    omega (arith, c.loop-m.invariant.so_far, c.loop-m.invariant.room, c.machines-m-end.ensures, c.loop-m-test.true)

pub returns : goal.returns
returns c =
    let all : c.loop-m.m ≡ machine_count c.args.inst.now.tables =
    omega (arith, c.loop-m-test.false, c.loop-m.auto.m-end, c.machines-m-end.ensures) in
    λ (a : List Machine) stand. rw all at (c.loop-m.invariant.value a stand)
