-- The sum so far.
use Rattle.std.proofs.Common.{◌≡◌, ◌≤◌}
use Rattle.ra_model.specs.Assignments.{tally}
use Rattle.ra_repair.specs.Penalty.{closed_share}
use Rattle.ra_repair.proofs.sums.closed_sum.Given as goal

abbrev pub invariant-loop-p : goal.invariant-loop-p
invariant-loop-p l = record {
  value : l.sum ≡ tally l.p (closed_share l.inst.tables l.start.items) l.kept.assignment.items;
  few : l.sum ≤ l.p;
}
