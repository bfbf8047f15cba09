use Rattle.std.proofs.Common.{ℕ, ◌+◌, ◌*◌, ◌<◌, slice_index}
use Rattle.ra_shift.specs.Windows.{lacking, IsSumOrLarge}
use Rattle.ra_shift.proofs.blocks.add_up.Given as goal

-- The sums of the blocks so far are in the list.
abbrev pub invariant-loop-number : goal.invariant-loop-number
invariant-loop-number l = (k : ℕ) → k < l.number * 16 →
    IsSumOrLarge l.limit (slice_index l.sums k) (lacking l.rows l.terms (l.start + k))
