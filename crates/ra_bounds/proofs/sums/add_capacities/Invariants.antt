-- The row is added in the columns so far.
use Rattle.ra_model.specs.Numbers.{resource_count, capacity_of}
use Rattle.ra_bounds.specs.Totals.{ArePartTotals}
use Rattle.ra_bounds.proofs.sums.add_capacities.Given as goal

abbrev pub invariant-loop-r : goal.invariant-loop-r
invariant-loop-r l = ArePartTotals (resource_count l.inst.tables) l.m.0 l.r (capacity_of l.inst.tables) l.sums
