-- The row is added in the columns so far.
use Rattle.ra_model.specs.Numbers.{resource_count, requirement_of}
use Rattle.ra_bounds.specs.Totals.{ArePartTotals}
use Rattle.ra_bounds.proofs.sums.add_requirements.Given as goal

abbrev pub invariant-loop-r : goal.invariant-loop-r
invariant-loop-r g l = ArePartTotals (resource_count l.inst.tables) l.p.0 l.r (requirement_of l.inst.tables) l.sums
