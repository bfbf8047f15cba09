use Rattle.std.proofs.Common.{replicate, refl, ◌*◌, ◌%◌, ◌^◌}
use Rattle.std.proofs.lemmas.Simd.{get_or-replicate}
use Rattle.ra_shift.proofs.LaneLemmas.{HasLanes-zip2}
use Rattle.ra_shift.proofs.lanes.weigh.Goals as goal

pub returns : goal.returns
returns c = HasLanes-zip2 (λ a b. a * b % 2 ^ 32) (replicate 16 c.args.weight) c.args.numbers _ refl c.fits-numbers.0
    (λ k l. rw (get_or-replicate 16 k c.args.weight 0 l))
