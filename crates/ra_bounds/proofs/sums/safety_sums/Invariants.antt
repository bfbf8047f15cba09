-- The sums over the rows so far.
use Rattle.ra_model.specs.Numbers.{resource_count, safety_of}
use Rattle.ra_bounds.specs.Totals.{AreTotals}
use Rattle.ra_bounds.proofs.sums.safety_sums.Given as goal

abbrev pub invariant-loop-m : goal.invariant-loop-m
invariant-loop-m l = AreTotals (resource_count l.inst.tables) l.m (safety_of l.inst.tables) l.sums
