use Rattle.std.proofs.Common.{◌≡◌, ℕ, ◌+◌, ◌<◌, slice_index, drop}
use Rattle.ra_shift.specs.Windows.{lacking}
use Rattle.ra_shift.proofs.blocks.block.Given as goal

-- The sums so far and what is still to come are the whole sums.
abbrev pub invariant-loop-i : goal.invariant-loop-i
invariant-loop-i l = (k : ℕ) → k < 16 →
    slice_index l.sums k + lacking l.rows (drop l.i l.terms) (l.at + k) ≡ lacking l.rows l.terms (l.at + k)
