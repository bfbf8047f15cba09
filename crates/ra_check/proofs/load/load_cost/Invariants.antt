-- The sum so far, and its bound.
use Rattle.std.proofs.Common.{◌≡◌, ◌*◌, ◌^◌, ◌≤◌, List}
use Rattle.ra_base.specs.Sums.{total}
use Rattle.ra_base.specs.declared.ids.Machine.{Machine}
use Rattle.ra_model.specs.Costs.{load_part}
use Rattle.ra_check.specs.Stands.{IsUsage}
use Rattle.ra_check.proofs.load.load_cost.Given as goal

abbrev pub invariant-loop-r : goal.invariant-loop-r
invariant-loop-r l = record {
  value : (a : List Machine) → IsUsage l.inst.tables a l.used.items → l.cost ≡ total l.r (load_part l.inst.tables a);
  bound : l.cost ≤ l.r * 2 ^ 110;
}
