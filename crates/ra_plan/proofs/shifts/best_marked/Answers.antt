-- Machines without a mark are passed over.
use Rattle.std.proofs.Common.{◌≡◌, ◌≢◌, ◌+◌, ◌%◌, ◌≤◌, min, slice_index, [], ap, sym, subst, ◌∙◌, arith}
use Rattle.std.proofs.lemmas.Nat.{mod_below}
use Rattle.ra_base.specs.declared.causes.Drawing.TheVariants.{Two}
use Rattle.ra_model.specs.Numbers.{machine_count}
use Rattle.ra_shift.specs.Lanes.{machine_in}
use Rattle.ra_model.specs.Assignments.{machine_at}
use Rattle.ra_shift.specs.Arriving.{sum_at, room_below, IsCostBelow}
use Rattle.ra_plan.specs.Choosing.{IsBest, cost_to_beat}
use Rattle.ra_plan.proofs.Bests.{none_low, none_bound, found_at_most}
use Rattle.ra_plan.proofs.Marked.{with_home, skips, unmarked_dear, marked_sum}
use Rattle.ra_plan.proofs.Bests.{machines_of}
use Rattle.ra_plan.proofs.shifts.best_marked.Goals as goal

pub with_mark-all-requires-clause-first : goal.with_mark-all-requires-clause-first
with_mark-all-requires-clause-first c =
    omega (arith, machines_of c.machines-machines.ensures c.instance.ensures.value, c.requires.first)

pub with_mark-all-requires-clause-machine : goal.with_mark-all-requires-clause-machine
with_mark-all-requires-clause-machine c =
    omega (arith, machines_of c.machines-machines.ensures c.instance.ensures.value, rw c.requires.world at c.home.ensures.within)

pub with_mark-all-requires-clause-few : goal.with_mark-all-requires-clause-few
with_mark-all-requires-clause-few c =
    omega (arith, machines_of c.machines-machines.ensures c.instance.ensures.value, c.instance.ensures.sound.well_formed.few_machines)

pub loop-option-init : goal.loop-option-init
loop-option-init c =
    let w = c.args.world.now in
    let p = c.args.shift.now.process.0 in
    let home = with_home w p (rw c.requires.world at c.home.ensures.value)
    (machines_of c.machines-machines.ensures c.instance.ensures.value) c.min-count.ensures
    c.with_mark-all.ensures.here c.with_mark-all.ensures.others in
    let low = none_low w c.none-best.result c.args.most (c.none-best.ensures w [] Two 0) in
    record {
      within = c.next_mark-option.ensures.end;
      set = c.next_mark-option.ensures.marked;
      bound = low;
      room = c.room_below-room.ensures ∙ ap (room_below c.args.shift.now.world.now p)
          (sym (none_bound w c.none-best.result c.args.most (c.none-best.ensures w [] Two 0)));
      lacking = record { each = λ label to is. absurd (cc) };
      best = λ x allowed is window. skips w x
          c.next_mark-option.result is window low
          c.next_mark-option.ensures.from
          (λ k after before. unmarked_dear w p k c.requires.marked home (omega (arith, c.min-count.ensures))
          (omega (arith, before, c.next_mark-option.ensures.end))
          (c.next_mark-option.ensures.none k after before))
          (c.none-best.ensures w x Two allowed);
    }

pub loop-option-preserved : goal.loop-option-preserved
loop-option-preserved c =
    let w = c.args.world.now in
    let p = c.args.shift.now.process.0 in
    let machines = machines_of c.machines-machines.ensures c.instance.ensures.value in
    let s = c.args.shift.now.world.now in
    let below = subst (λ b. IsCostBelow s p c.wrapped.result b c.cost_summed-found.result) c.bound-bound.ensures
    c.cost_summed-found.ensures.below in
    let low : cost_to_beat c.or_found-best.result.cost c.args.most ≤ c.args.most =
    omega (arith, c.or_found-best.ensures.bound s _ c.args.most below, c.loop-option.invariant.bound) in
    let to : c.wrapped.result ≡ machine_in w c.args.first c.loop-option.option = c.wrapped.ensures
    ∙ ap (λ m. (c.args.first + c.loop-option.option) % m) machines in
    record {
      within = c.next_mark-option-in-loop-option.ensures.end;
      set = c.next_mark-option-in-loop-option.ensures.marked;
      bound = low;
      room = c.room_after-room.ensures _ c.loop-option.invariant.room
          ∙ ap (room_below s p) (sym (c.or_found-best.ensures.next c.args.most));
      lacking = c.cost_summed-found.ensures.lacking;
      best = λ x allowed is window. skips w x
          c.next_mark-option-in-loop-option.result is window low
          c.next_mark-option-in-loop-option.ensures.from
          (λ k after before. unmarked_dear w p k c.requires.marked
          (with_home w p (rw c.requires.world at c.home.ensures.value) machines c.min-count.ensures
          c.with_mark-all.ensures.here c.with_mark-all.ensures.others) (omega (arith, c.min-count.ensures))
          (omega (arith, before, c.next_mark-option-in-loop-option.ensures.end))
          (c.next_mark-option-in-loop-option.ensures.none k after before))
          (c.or_found-best.ensures.best w x Two allowed _ (c.loop-option.invariant.best x allowed is window)
          (rw (← to) at (window.each c.loop-option.option))
          (subst (λ b. IsCostBelow w p c.wrapped.result b c.cost_summed-found.result)
          (ap (cost_to_beat c.loop-option.best.cost) is) (rw c.requires.world at below)));
    }

pub cost_summed-found-requires-clause-machine : goal.cost_summed-found-requires-clause-machine
cost_summed-found-requires-clause-machine c =
    let machines = machines_of c.machines-machines.ensures c.instance.ensures.value in
    rw c.requires.world (omega (
      arith,
      c.wrapped.ensures,
      machines,
      mod_below (c.args.first + c.loop-option.option) c.machines-machines.result
          (omega (arith, machines, c.requires.first)),
    ))

pub cost_summed-found-requires-clause-room : goal.cost_summed-found-requires-clause-room
cost_summed-found-requires-clause-room c =
    c.loop-option.invariant.room ∙ ap (room_below c.args.shift.now.world.now c.args.shift.now.process.0)
    (sym c.bound-bound.ensures)

pub cost_summed-found-requires-clause-lacking : goal.cost_summed-found-requires-clause-lacking
cost_summed-found-requires-clause-lacking c = c.loop-option.invariant.lacking

pub room_after-room-requires : goal.room_after-room-requires
room_after-room-requires c =
    found_at_most c.cost_summed-found.result _ (λ cost is.
    omega (
      arith,
      c.cost_summed-found.ensures.below.below cost is,
      c.bound-bound.ensures,
      c.loop-option.invariant.bound,
      c.requires.most,
    ))

pub cost_summed-found-requires-clause-bound : goal.cost_summed-found-requires-clause-bound
cost_summed-found-requires-clause-bound c =
    omega (arith, c.bound-bound.ensures, c.loop-option.invariant.bound, c.requires.most)

pub cost_summed-found-requires-clause-sum : goal.cost_summed-found-requires-clause-sum
cost_summed-found-requires-clause-sum c =
    let w = c.args.world.now in
    let p = c.args.shift.now.process.0 in
    let machines = machines_of c.machines-machines.ensures c.instance.ensures.value in
    let to : c.wrapped.result ≡ machine_in w c.args.first c.loop-option.option = c.wrapped.ensures
    ∙ ap (λ m. (c.args.first + c.loop-option.option) % m) machines in
    let sum : machine_at w.start p ≢ c.wrapped.result →
    slice_index c.args.sums.now c.loop-option.option ≡ sum_at w p c.wrapped.result = λ apart.
    rw to (marked_sum w p
    c.loop-option.option c.requires.marked
    (with_home w p (rw c.requires.world at c.home.ensures.value) machines c.min-count.ensures
    c.with_mark-all.ensures.here c.with_mark-all.ensures.others)
    (omega (arith, c.min-count.ensures)) c.loop-option-test.true
    (c.loop-option.invariant.set c.loop-option-test.true) (rw to at apart)) in
    rw c.requires.world sum

pub returns : goal.returns
returns c = λ x allowed is window.
    let w = c.args.world.now in
    let all : c.loop-option.option ≡ min 64 (machine_count w.tables) =
    omega (arith, c.loop-option-test.false, c.loop-option.invariant.within, c.min-count.ensures, machines_of c.machines-machines.ensures c.instance.ensures.value) in
    subst (λ n. IsBest w x Two allowed n c.loop-option.best) all (c.loop-option.invariant.best x allowed is window)
