-- The sum over the resources so far.
use Rattle.std.proofs.Common.{◌≡◌, ◌*◌, ◌^◌, ◌≤◌}
use Rattle.ra_base.specs.Sums.{total}
use Rattle.ra_repair.specs.Penalty.{use_above}
use Rattle.ra_repair.proofs.above.row_above.Given as goal

abbrev pub invariant-loop-r : goal.invariant-loop-r
invariant-loop-r l = record {
  value : l.sum ≡ total l.r (use_above l.inst.tables l.kept.assignment.items l.m.0);
  few : l.sum ≤ l.r * 2 ^ 48;
}
