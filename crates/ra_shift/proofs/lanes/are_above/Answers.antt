use Rattle.std.proofs.Common.{leb, arith, eq-eqb, w32}
use Rattle.std.proofs.lemmas.Bool.{eqb-true}
use Rattle.std.proofs.lemmas.Simd.{bitmask_splat}
use Rattle.ra_shift.proofs.LaneLemmas.{above_from_none, none_from_above}
use Rattle.ra_shift.proofs.lanes.are_above.Goals as goal

pub returns : goal.returns
returns c =
    let v = c.args.numbers in
    let long = c.fits-numbers.0 in
    rw (bitmask_splat w32 leb v 8 c.args.limit long (omega arith)) (
      λ t k l. above_from_none v c.args.limit (eqb-true _ _ t) k (omega (arith, long)),
      λ above. eq-eqb _ _ (none_from_above v c.args.limit (λ k l. above k (omega (arith, long)))),
    )
