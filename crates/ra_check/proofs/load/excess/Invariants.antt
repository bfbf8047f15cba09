-- The sum so far, and its bound.
use Rattle.std.proofs.Common.{◌≡◌, ◌*◌, ◌^◌, ◌≤◌, List}
use Rattle.ra_base.specs.Sums.{total}
use Rattle.ra_base.specs.declared.ids.Machine.{Machine}
use Rattle.ra_model.specs.Costs.{excess_on}
use Rattle.ra_check.specs.Stands.{IsUsage}
use Rattle.ra_check.proofs.load.excess.Given as goal

abbrev pub invariant-loop-m : goal.invariant-loop-m
invariant-loop-m l = record {
  value : (a : List Machine) → IsUsage l.inst.tables a l.used.items →
      l.sum ≡ total l.m (excess_on l.inst.tables a l.r.0);
  bound : l.sum ≤ l.m * 2 ^ 64;
}
