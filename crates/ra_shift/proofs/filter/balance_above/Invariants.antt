-- The sum so far, and its bound.
use Rattle.std.proofs.Common.{◌≡◌, ℕ, ◌+◌, ◌-◌, ◌*◌, ◌^◌, ◌≤◌}
use Rattle.ra_base.specs.Sums.{total}
use Rattle.ra_rows.specs.FilterRows.{first_asked, first_row, second_asked, second_row}
use Rattle.ra_shift.specs.Sharing.{AreRequired}
use Rattle.ra_shift.proofs.filter.balance_above.Given as goal

abbrev pub invariant-loop-b : goal.invariant-loop-b
invariant-loop-b l = record {
  value : (p : ℕ) → AreRequired l.world.tables p l.required →
      l.sum ≡ total l.b
      (λ k. first_asked l.world.tables p k - first_row l.world.tables l.world.here
      l.to.0 k + (second_asked l.world.tables p k - second_row l.world.tables
      l.world.here l.to.0 k));
  bound : l.sum ≤ l.b * 2 ^ 96;
}
