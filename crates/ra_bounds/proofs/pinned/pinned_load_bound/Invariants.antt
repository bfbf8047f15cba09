-- The sum so far, and its bound.
use Rattle.std.proofs.Common.{◌≡◌, ◌*◌, ◌^◌, ◌≤◌, List}
use Rattle.ra_base.specs.Sums.{total}
use Rattle.ra_base.specs.declared.ids.Machine.{Machine}
use Rattle.ra_model.specs.Numbers.{load_weight_of}
use Rattle.ra_pins.specs.Pins.{ArePins}
use Rattle.ra_bounds.specs.PinnedBounds.{pinned_overload}
use Rattle.ra_bounds.proofs.pinned.pinned_load_bound.Given as goal

abbrev pub invariant-loop-r : goal.invariant-loop-r
invariant-loop-r l = record {
  value : (a0 : List Machine) → ArePins l.pins l.inst.tables a0 →
      l.cost ≡ total l.r (λ r. load_weight_of l.inst.tables r * pinned_overload l.inst.tables a0 r);
  fits : l.cost ≤ l.r * 2 ^ 96;
}
