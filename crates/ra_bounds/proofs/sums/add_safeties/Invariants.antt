-- The row is added in the columns so far.
use Rattle.ra_model.specs.Numbers.{resource_count, safety_of}
use Rattle.ra_bounds.specs.Totals.{ArePartTotals}
use Rattle.ra_bounds.proofs.sums.add_safeties.Given as goal

abbrev pub invariant-loop-r : goal.invariant-loop-r
invariant-loop-r l = ArePartTotals (resource_count l.inst.tables) l.m.0 l.r (safety_of l.inst.tables) l.sums
