-- The sum so far, and its bound.
use Rattle.std.proofs.Common.{◌≡◌, ℕ, ◌*◌, ◌^◌, ◌≤◌}
use Rattle.ra_base.specs.Sums.{total}
use Rattle.ra_rows.specs.FilterRows.{first_asked}
use Rattle.ra_shift.specs.Sharing.{AreRequired}
use Rattle.ra_shift.proofs.filter.saved.Given as goal

abbrev pub invariant-loop-b : goal.invariant-loop-b
invariant-loop-b l = record {
  value : (p : ℕ) → AreRequired l.inst.tables p l.required → l.sum ≡ total l.b (first_asked l.inst.tables p);
  bound : l.sum ≤ l.b * 2 ^ 96;
}
