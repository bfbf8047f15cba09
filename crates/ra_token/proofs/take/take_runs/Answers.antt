use Rattle.std.proofs.Common.{◌-◌, arith}
use Rattle.ra_token.specs.Scan.{TakesRuns}
use Rattle.ra_token.proofs.Taking.{takes_none, takes_then, takes_more}
use Rattle.ra_token.proofs.take.take_runs.Goals.{then-bytes-at, else-bytes-at}
use Rattle.ra_token.proofs.take.take_runs.Goals as goal

pub loop-taken-init : goal.loop-taken-init
loop-taken-init c = (
  takes_none c.args.bytes.now c.args.from c.args.most c.args.values.now c.requires.within,
  omega (arith, c.len-before.ensures.value),
  c.len-before.ensures.value,
)

pub loop-taken-preserved : goal.loop-taken-preserved
loop-taken-preserved c =
    let bytes = c.args.bytes.now in
    let before = c.loop-taken.invariant in
    let limit = c.args.most - c.loop-taken.taken in
    let more : TakesRuns bytes c.loop-taken.at c.if-bytes-at.end limit c.loop-taken.values c.if-bytes-at.values =
    elim c.if-bytes-at.branch [
      | then-bytes-at w ↦ rw (w.values-is, w.end-is) w.some_runs-end.ensures
      | else-bytes-at w ↦ rw (w.values-is, w.end-is)
          (takes_more bytes _ _ 1 limit _ _ (omega (arith, c.loop-taken-test.true)) w.one_run-end.ensures)
    ] in (
      takes_then bytes c.args.from c.loop-taken.at c.if-bytes-at.end c.args.most c.args.most limit c.args.values.now
          c.loop-taken.values c.if-bytes-at.values before.0 more
          (omega (arith, more.most, before.1, before.2, c.loop-taken-test.true)),
      omega (arith, more.grows, before.1, c.len.ensures.value),
      before.2,
    )
