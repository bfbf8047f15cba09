-- The best of the options so far, and what was read for them.
use Rattle.std.proofs.Common.{◌+◌, ◌*◌, ◌≤◌}
use Rattle.ra_model.specs.Numbers.{resource_count}
use Rattle.ra_moves.specs.MoveSteps.{step_count}
use Rattle.ra_moves.specs.Options.{kind_of}
use Rattle.ra_plan.specs.Choosing.{IsBest}
use Rattle.ra_plan.proofs.moves.best_move.Given as goal

abbrev pub invariant-loop-option : goal.invariant-loop-option
invariant-loop-option g l = record {
  best : IsBest l.world l.words l.drawing l.allowed l.option l.best;
  counted : l.steps + 2 * (step_count (kind_of l.words) * resource_count l.world.tables) ≤ l.fn.steps
      + l.option * (2 * (step_count (kind_of l.words) * resource_count l.world.tables));
}
