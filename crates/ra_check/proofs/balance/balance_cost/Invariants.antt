-- The sum so far, and its bound.
use Rattle.std.proofs.Common.{◌≡◌, ◌*◌, ◌^◌, ◌≤◌, List}
use Rattle.ra_base.specs.Sums.{total}
use Rattle.ra_base.specs.declared.ids.Machine.{Machine}
use Rattle.ra_model.specs.Costs.{balance_part}
use Rattle.ra_check.specs.Stands.{IsUsage}
use Rattle.ra_check.proofs.balance.balance_cost.Given as goal

abbrev pub invariant-loop-b : goal.invariant-loop-b
invariant-loop-b l = record {
  value : (a : List Machine) → IsUsage l.inst.tables a l.used.items → l.cost ≡ total l.b (balance_part l.inst.tables a);
  bound : l.cost ≤ l.b * 2 ^ 110;
}
