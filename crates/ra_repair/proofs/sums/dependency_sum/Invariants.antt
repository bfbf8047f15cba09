-- The sum so far.
use Rattle.std.proofs.Common.{◌≡◌, ◌*◌, ◌≤◌}
use Rattle.ra_base.specs.Sums.{total}
use Rattle.ra_repair.specs.Penalty.{service_far}
use Rattle.ra_repair.proofs.sums.dependency_sum.Given as goal

abbrev pub invariant-loop-s : goal.invariant-loop-s
invariant-loop-s l = record {
  value : l.sum ≡ total l.s (service_far l.inst.tables l.kept.assignment.items);
  few : l.sum ≤ l.s * 5000000000;
}
