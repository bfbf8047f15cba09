-- The sum so far.
use Rattle.std.proofs.Common.{◌≡◌, ◌*◌, ◌≤◌}
use Rattle.ra_base.specs.Sums.{total, fresh}
use Rattle.ra_repair.specs.Penalty.{crowd_on}
use Rattle.ra_repair.specs.Members.{seat_of}
use Rattle.ra_repair.proofs.sums.service_crowd.Given as goal

abbrev pub invariant-loop-k : goal.invariant-loop-k
invariant-loop-k l = record {
  value : l.sum ≡
      total l.k (fresh (seat_of l.kept.assignment.items l.members)
      (crowd_on l.inst.tables l.kept.assignment.items l.s.0));
  few : l.sum ≤ l.k * 50000;
}
