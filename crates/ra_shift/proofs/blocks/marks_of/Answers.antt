use Rattle.std.proofs.Common.{◌≡◌, ◌↔◌, ℕ, ◌+◌, ◌*◌, ◌%◌, ◌^◌, ◌<◌, ◌≤◌, get_or, bit_or, ap, subst, ◌∙◌, arith}
use Rattle.std.specs.Int.{bit_at}
use Rattle.std.specs.Int.Bits.{or_shifted_r}
use Rattle.ra_shift.proofs.WindowLemmas.{AreMarks, next_marks, shifted_fits}
use Rattle.ra_shift.proofs.blocks.marks_of.Goals as goal

pub loop-number-preserved : goal.loop-number-preserved
loop-number-preserved c =
    let sums = c.args.sums.now in
    let n = c.loop-number.number * 16 in
    let small = c.small_lanes.result in
    let marks : bit_or c.loop-number.marks (small * 2 ^ n % 2 ^ 64) ≡ small * 2 ^ n + c.loop-number.marks =
    ap (bit_or c.loop-number.marks)
    (shifted_fits small c.loop-number.number c.small_lanes.ensures.below c.loop-number-test.true)
    ∙ or_shifted_r small n c.loop-number.marks c.loop-number.invariant.below in
    let bits : (k : ℕ) → k < 16 → (bit_at small k ≡ 1) ↔ (get_or sums (n + k) 0 ≤ c.args.limit) =
    λ k l. rw (← c.load.ensures.each k l) (c.small_lanes.ensures.bits k l) in
    rw marks (subst (AreMarks sums c.args.limit (small * 2 ^ n + c.loop-number.marks)) (omega arith)
    (next_marks sums c.args.limit c.loop-number.marks small n c.loop-number.invariant c.small_lanes.ensures.below bits))
