-- The sum so far.
use Rattle.std.proofs.Common.{◌≡◌, ◌*◌, ◌≤◌}
use Rattle.ra_base.specs.Sums.{total}
use Rattle.ra_repair.specs.Penalty.{pair_far}
use Rattle.ra_repair.proofs.sums.service_far.Given as goal

abbrev pub invariant-loop-k : goal.invariant-loop-k
invariant-loop-k l = record {
  value : l.sum ≡ total l.k (pair_far l.inst.tables l.kept.assignment.items l.s.0);
  few : l.sum ≤ l.k * 50000;
}
