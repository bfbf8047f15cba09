-- The sums over the rows so far.
use Rattle.ra_model.specs.Numbers.{resource_count, capacity_of}
use Rattle.ra_bounds.specs.Totals.{AreTotals}
use Rattle.ra_bounds.proofs.sums.capacity_sums.Given as goal

abbrev pub invariant-loop-m : goal.invariant-loop-m
invariant-loop-m l = AreTotals (resource_count l.inst.tables) l.m (capacity_of l.inst.tables) l.sums
