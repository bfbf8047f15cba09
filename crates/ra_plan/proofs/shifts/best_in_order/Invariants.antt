-- The best of the options so far.
use Rattle.ra_plan.specs.Choosing.{IsBest}
use Rattle.ra_plan.proofs.shifts.best_in_order.Given as goal

abbrev pub invariant-loop-option : goal.invariant-loop-option
invariant-loop-option l = IsBest l.world l.words l.drawing l.allowed l.option l.best
