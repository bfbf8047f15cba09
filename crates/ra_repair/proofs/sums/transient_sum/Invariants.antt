-- The sum so far.
use Rattle.std.proofs.Common.{◌≡◌, ◌*◌, ◌^◌, ◌≤◌}
use Rattle.ra_base.specs.Sums.{total}
use Rattle.ra_repair.specs.Penalty.{row_transient_above}
use Rattle.ra_repair.proofs.sums.transient_sum.Given as goal

abbrev pub invariant-loop-m : goal.invariant-loop-m
invariant-loop-m l = record {
  value : l.sum ≡ total l.m (row_transient_above l.inst.tables l.start.items l.kept.assignment.items);
  few : l.sum ≤ l.m * (20 * 2 ^ 48);
}
