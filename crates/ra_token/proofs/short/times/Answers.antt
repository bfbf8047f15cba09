use Rattle.std.proofs.Common.{replicate, refl, get_or, ap, ◌*◌, ◌%◌, ◌^◌}
use Rattle.std.proofs.lemmas.Simd.{get_or-replicate}
use Rattle.ra_token.proofs.Lanes.{HasSixtyFourLanes-zip2}
use Rattle.ra_token.proofs.short.times.Goals as goal

pub returns : goal.returns
returns c = HasSixtyFourLanes-zip2 (λ a b. a * b % 2 ^ 16) c.args.lanes (replicate 64 c.args.factor) _ c.fits-lanes.0
    refl
    (λ k l. ap (λ w. get_or c.args.lanes k 0 * w % 2 ^ 16) (get_or-replicate 64 k c.args.factor 0 l))
