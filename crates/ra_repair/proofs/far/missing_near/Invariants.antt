-- How many of the dependencies so far are missing.
use Rattle.std.proofs.Common.{◌≡◌, ◌≤◌}
use Rattle.ra_base.specs.Sums.{count}
use Rattle.ra_repair.specs.Touched.{is_missing}
use Rattle.ra_repair.proofs.far.missing_near.Given as goal

abbrev pub invariant-loop-k : goal.invariant-loop-k
invariant-loop-k l = record {
  value : l.missing ≡ count l.k (is_missing l.inst.tables l.kept.assignment.items l.fn.s.0 l.label);
  few : l.missing ≤ l.k;
}
