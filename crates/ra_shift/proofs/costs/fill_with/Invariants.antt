-- The numbers so far.
use Rattle.std.proofs.Common.{◌≡◌, ℕ, ◌+◌, ◌<◌, length, slice_index}
use Rattle.ra_shift.proofs.costs.fill_with.Given as goal

abbrev pub invariant-loop-r : goal.invariant-loop-r
invariant-loop-r l = record {
  size : length l.row ≡ 20;
  so_far : (k : ℕ) → k < l.r → slice_index l.row k ≡ slice_index l.used k + slice_index l.required k;
}
