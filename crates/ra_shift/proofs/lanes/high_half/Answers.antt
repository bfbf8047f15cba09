use Rattle.std.proofs.Common.{◌∙◌, arith}
use Rattle.std.specs.List.{range_with_len}
use Rattle.std.proofs.lemmas.Simd.{pick_l_left, pick_l-range_with_len}
use Rattle.ra_shift.proofs.lanes.high_half.Goals as goal

pub returns : goal.returns
returns c =
    pick_l_left 0 c.args.sums c.args.sums 16 (range_with_len 8 8) c.fits-sums.0 tt
    ∙ pick_l-range_with_len 0 c.args.sums 8 8 (omega (arith, c.fits-sums.0))
