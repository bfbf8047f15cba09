use Rattle.std.proofs.Common.{ℕ, length, refl, arith, ◌∙◌, ap, length-append}
use Rattle.ra_trial.proofs.LineLemmas.{none_behind, listed_behind}
use Rattle.ra_trial.proofs.machines.add_way_costs.Goals as goal

pub loop-b-init : goal.loop-b-init
loop-b-init c = record { items = none_behind _ _; many = omega arith; room = refl }

pub loop-b-preserved : goal.loop-b-preserved
loop-b-preserved c = record {
  items = listed_behind _ _ c.loop-b.invariant.items c.move_cost.ensures c.push.ensures.items;
  many = omega (arith, ap length c.push.ensures.items, length-append {A = ℕ});
  room = c.push.ensures.room ∙ c.loop-b.invariant.room;
}
