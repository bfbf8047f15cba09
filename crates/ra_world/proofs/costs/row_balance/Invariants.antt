-- The sum so far, and its bound.
use Rattle.std.proofs.Common.{◌≡◌, ◌*◌, ◌^◌, ◌≤◌, slice_index}
use Rattle.ra_base.specs.Sums.{total}
use Rattle.ra_model.specs.MachineCosts.{balance_share}
use Rattle.ra_world.proofs.costs.row_balance.Given as goal

abbrev pub invariant-loop-b : goal.invariant-loop-b
invariant-loop-b l = record {
  value : l.cost ≡ total l.b (balance_share l.inst.tables l.m.0 (slice_index l.row));
  bound : l.cost ≤ l.b * 2 ^ 96;
}
