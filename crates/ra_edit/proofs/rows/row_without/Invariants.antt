-- The resources so far.
use Rattle.std.proofs.Common.{◌≡◌, ℕ, ◌+◌, ◌<◌, length, slice_index}
use Rattle.ra_edit.proofs.rows.row_without.Given as goal

abbrev pub invariant-loop-r : goal.invariant-loop-r
invariant-loop-r l = record {
  size : length l.rests.items ≡ l.r;
  room : l.rests.room ≡ length l.row;
  each : (k : ℕ) → k < l.r → slice_index l.rests.items k + slice_index l.amounts k ≡ slice_index l.row k;
}
