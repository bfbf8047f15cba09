-- The sum so far, and its bound.
use Rattle.std.proofs.Common.{◌≡◌, ◌*◌, ◌^◌, ◌≤◌, slice_index}
use Rattle.ra_base.specs.Sums.{total}
use Rattle.ra_model.specs.MachineCosts.{load_share}
use Rattle.ra_world.proofs.costs.row_load.Given as goal

abbrev pub invariant-loop-r : goal.invariant-loop-r
invariant-loop-r l = record {
  value : l.cost ≡ total l.r (load_share l.inst.tables l.m.0 (slice_index l.row));
  bound : l.cost ≤ l.r * 2 ^ 96;
}
