-- The sum so far, and its bound.
use Rattle.std.proofs.Common.{◌≡◌, ℕ, ◌-◌, ◌*◌, ◌^◌, ◌≤◌}
use Rattle.ra_base.specs.Sums.{total}
use Rattle.ra_rows.specs.FilterRows.{load_asked, load_row}
use Rattle.ra_shift.specs.Sharing.{AreRequired}
use Rattle.ra_shift.proofs.filter.load_above.Given as goal

abbrev pub invariant-loop-r : goal.invariant-loop-r
invariant-loop-r l = record {
  value : (p : ℕ) → AreRequired l.world.tables p l.required →
      l.sum ≡ total l.r
      (λ k. load_asked l.world.tables p k - load_row l.world.tables l.world.here
      l.to.0 k);
  bound : l.sum ≤ l.r * 2 ^ 64;
}
