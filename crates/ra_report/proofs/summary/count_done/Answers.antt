use Rattle.std.proofs.Common.{refl, arith}
use Rattle.ra_report.specs.Summaries.{done_count}
use Rattle.ra_report.proofs.Counts.{counted_more}
use Rattle.ra_report.proofs.summary.count_done.Goals as goal

pub loop-place-init : goal.loop-place-init
unfolding done_count
loop-place-init c = (refl, omega arith)

pub loop-place-preserved : goal.loop-place-preserved
loop-place-preserved c =
    let one = c.one_if_done-done.ensures.one in
    let before = c.loop-place.invariant.1 in (
      counted_more c.args.entries.now.items c.loop-place.place c.get.result c.loop-place.done _
          (omega (arith, c.loop-place-test.true, c.len-place-end.ensures.value)) c.get.ensures
          c.loop-place.invariant.0 c.one_if_done-done.ensures.value,
      omega arith,
    )
