-- The sum so far, and its bound.
use Rattle.std.proofs.Common.{◌≡◌, ◌*◌, ◌^◌, ◌≤◌}
use Rattle.ra_base.specs.Sums.{total}
use Rattle.ra_model.specs.Numbers.{balance_weight_of}
use Rattle.ra_bounds.specs.Bounds.{lack}
use Rattle.ra_bounds.proofs.balance.balance_bound.Given as goal

abbrev pub invariant-loop-b : goal.invariant-loop-b
invariant-loop-b l = record {
  value : l.cost ≡ total l.b (λ b. balance_weight_of l.inst.tables b * lack l.inst.tables b);
  fits : l.cost ≤ l.b * 2 ^ 114;
}
