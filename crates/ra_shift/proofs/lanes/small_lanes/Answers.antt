use Rattle.std.proofs.Common.{leb, arith, w32}
use Rattle.std.proofs.lemmas.Simd.{bitmask_splat}
use Rattle.ra_shift.proofs.LaneLemmas.{bit_at-mask_l, mask_below}
use Rattle.ra_shift.proofs.lanes.small_lanes.Goals as goal

pub returns-clause-below : goal.returns-clause-below
returns-clause-below c =
    rw (bitmask_splat w32 leb c.args.sums 16 c.args.limit c.fits-sums.0 (omega arith)) (mask_below c.args.sums c.args.limit c.fits-sums.0)

pub returns-clause-bits : goal.returns-clause-bits
returns-clause-bits c k l =
    rw (bitmask_splat w32 leb c.args.sums 16 c.args.limit c.fits-sums.0 (omega arith))
    (bit_at-mask_l c.args.sums c.args.limit k (omega (arith, c.fits-sums.0)))
