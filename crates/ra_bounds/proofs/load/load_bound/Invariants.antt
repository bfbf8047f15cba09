-- The sum so far, and its bound.
use Rattle.std.proofs.Common.{◌≡◌, ◌*◌, ◌^◌, ◌≤◌}
use Rattle.ra_base.specs.Sums.{total}
use Rattle.ra_model.specs.Numbers.{load_weight_of}
use Rattle.ra_bounds.specs.Bounds.{overload}
use Rattle.ra_bounds.proofs.load.load_bound.Given as goal

abbrev pub invariant-loop-r : goal.invariant-loop-r
invariant-loop-r l = record {
  value : l.cost ≡ total l.r (λ r. load_weight_of l.inst.tables r * overload l.inst.tables r);
  fits : l.cost ≤ l.r * 2 ^ 96;
}
