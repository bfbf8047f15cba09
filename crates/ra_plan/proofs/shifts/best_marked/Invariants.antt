-- The best of the machines so far, and a mark at the next one.
use Rattle.std.proofs.Common.{◌≡◌, ℕ, ◌+◌, ◌-◌, ◌<◌, ◌≤◌, List}
use Rattle.std.specs.Int.{bit_at}
use Rattle.ra_base.specs.declared.causes.Drawing.TheVariants.{Two}
use Rattle.ra_shift.specs.Arriving.{room_below}
use Rattle.ra_shift.specs.Conditions.{Lacks}
use Rattle.ra_plan.specs.Choosing.{IsBest, IsWindowOf, cost_to_beat}
use Rattle.ra_plan.proofs.shifts.best_marked.Given as goal
use Rattle.ra_model.specs.Situations.{cost_at}

abbrev pub invariant-loop-option : goal.invariant-loop-option
invariant-loop-option l = record {
  within : l.option ≤ l.count;
  set : l.option < l.count → bit_at l.all l.option ≡ 1;
  bound : cost_to_beat l.best.cost l.most ≤ l.most;
  room : l.room ≡ room_below l.shift.world.now l.shift.process.0 (cost_to_beat l.best.cost l.most);
  lacking : Lacks l.shift.world.now l.shift.process.0 l.lacking;
  best : (x : List ℕ) (allowed : ℕ) → l.most ≡ cost_at l.world + allowed + 1 →
      IsWindowOf l.world x l.shift.process.0 l.first → IsBest l.world x Two allowed l.option l.best;
}

abbrev pub decreases-loop-option : goal.decreases-loop-option
decreases-loop-option l = l.count - l.option
