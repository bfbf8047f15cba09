-- The resources so far.
use Rattle.std.proofs.Common.{◌≡◌, ℕ, ◌+◌, ◌<◌, length, slice_index}
use Rattle.ra_edit.proofs.rows.row_with.Given as goal

abbrev pub invariant-loop-r : goal.invariant-loop-r
invariant-loop-r l = record {
  size : length l.sums.items ≡ l.r;
  room : l.sums.room ≡ length l.row;
  each : (k : ℕ) → k < l.r → slice_index l.sums.items k ≡ slice_index l.row k + slice_index l.amounts k;
}
