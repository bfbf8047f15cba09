-- The sum so far, and its bound.
use Rattle.std.proofs.Common.{◌≡◌, ◌*◌, ◌^◌, ◌≤◌}
use Rattle.ra_model.specs.Assignments.{tally}
use Rattle.ra_model.specs.Costs.{way_share}
use Rattle.ra_check.proofs.ways.way_sum.Given as goal

abbrev pub invariant-loop-p : goal.invariant-loop-p
invariant-loop-p l = record {
  value : l.sum ≡ tally l.p (way_share l.inst.tables l.a0.items) l.a.items;
  bound : l.sum ≤ l.p * 2 ^ 32;
}
