-- The service of this process exists.
use Rattle.std.proofs.Common.{◌<◌, length, arith, below_more}
use Rattle.ra_model.specs.Numbers.{service_count, process_count}
use Rattle.ra_model.proofs.RawLemmas.{service_read}
use Rattle.ra_model.proofs.fits.services_exist.Goals as goal

pub loop-p-preserved : goal.loop-p-preserved
unfolding service_count
loop-p-preserved c =
    let raw = c.args.raw.now in
    let at : c.loop-p.p < length raw.processes.items = omega arith in
    below_more _ _ c.loop-p.invariant (omega (arith, service_read raw c.loop-p.p c.get.result at c.get.ensures))

pub returns-then-get-len-clause-only : goal.returns-then-get-len-clause-only
unfolding service_count process_count
returns-then-get-len-clause-only c = λ w.
    let raw = c.args.raw.now in
    let at : c.loop-p.p < length raw.processes.items = omega arith in
    absurd (omega (arith, w.services c.loop-p.p at, service_read raw c.loop-p.p c.get.result at c.get.ensures))

pub returns-clause-services : goal.returns-clause-services
unfolding process_count
returns-clause-services c = λ _ p h. c.loop-p.invariant p (omega arith)
