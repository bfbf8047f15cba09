-- The service at this place exists.
use Rattle.std.proofs.Common.{◌<◌, length, arith, below_more}
use Rattle.ra_model.specs.Numbers.{service_count}
use Rattle.ra_model.proofs.RawLemmas.{need_read}
use Rattle.ra_model.proofs.fits.needs_exist.Goals as goal

pub loop-place-preserved : goal.loop-place-preserved
unfolding service_count
loop-place-preserved c =
    let raw = c.args.raw.now in
    let at : c.loop-place.place < length raw.dependencies.items = omega arith in
    below_more _ _ c.loop-place.invariant
    (omega (arith, need_read raw c.loop-place.place c.get.result at c.get.ensures))

pub returns-then-get-len-clause-only : goal.returns-then-get-len-clause-only
unfolding service_count
returns-then-get-len-clause-only c = λ w.
    let raw = c.args.raw.now in
    let at : c.loop-place.place < length raw.dependencies.items = omega arith in
    absurd (omega
    (arith, w.needs c.loop-place.place at, need_read raw c.loop-place.place c.get.result at c.get.ensures))
