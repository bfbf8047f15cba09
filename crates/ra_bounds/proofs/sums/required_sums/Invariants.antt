-- The sums over the rows so far.
use Rattle.ra_model.specs.Numbers.{resource_count, requirement_of}
use Rattle.ra_bounds.specs.Totals.{AreTotals}
use Rattle.ra_bounds.proofs.sums.required_sums.Given as goal

abbrev pub invariant-loop-p : goal.invariant-loop-p
invariant-loop-p g l = AreTotals (resource_count l.inst.tables) l.p (requirement_of l.inst.tables) l.sums
