use Rattle.std.proofs.Common.{◌≡◌, ℕ, ◌+◌, ◌*◌, ◌<◌, ◌≤◌, slice_index}
use Rattle.ra_shift.proofs.blocks.add_ways.Given as goal

-- The ways of the blocks so far are added, and the other sums are as they were.
abbrev pub invariant-loop-number : goal.invariant-loop-number
invariant-loop-number l = record {
  added : (k : ℕ) → k < l.number * 16 → slice_index l.sums k ≡ slice_index l.fn.sums k
      + l.weight * slice_index l.ways k;
  rest : (k : ℕ) → l.number * 16 ≤ k → slice_index l.sums k ≡ slice_index l.fn.sums k;
}
