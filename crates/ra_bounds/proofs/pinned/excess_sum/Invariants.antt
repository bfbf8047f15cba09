-- The sum so far, and its bound.
use Rattle.std.proofs.Common.{◌≡◌, ◌*◌, ◌^◌, ◌≤◌, List}
use Rattle.ra_base.specs.Sums.{total}
use Rattle.ra_base.specs.declared.ids.Machine.{Machine}
use Rattle.ra_pins.specs.Pins.{ArePins}
use Rattle.ra_bounds.specs.PinnedBounds.{pinned_excess}
use Rattle.ra_bounds.proofs.pinned.excess_sum.Given as goal

abbrev pub invariant-loop-m : goal.invariant-loop-m
invariant-loop-m l = record {
  value : (a0 : List Machine) → ArePins l.pins l.inst.tables a0 →
      l.sum ≡ total l.m (pinned_excess l.inst.tables a0 l.r.0);
  fits : l.sum ≤ l.m * 2 ^ 48;
}
