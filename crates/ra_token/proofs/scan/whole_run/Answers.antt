use Rattle.std.proofs.Common.{◌<◌, length, arith}
use Rattle.ra_token.proofs.Told.{next_in}
use Rattle.ra_token.proofs.scan.whole_run.Goals as goal

pub returns-clause-next : goal.returns-clause-next
returns-clause-next c = λ all start low is between.
    let first = c.skip_blanks-first.result in
    let end = c.gather-stretch.result.end in
    let some : first < end = omega (arith, c.gather-stretch.ensures.low) in
    let within : end < length c.args.bytes.now = omega (arith, c.gather-stretch.ensures.high) in
    next_in all c.args.bytes.now start c.args.from first end c.gather-stretch.result.value is low
    c.skip_blanks-first.ensures.low some within c.skip_blanks-first.ensures.blanks
    (c.gather-stretch.ensures.moved some)
    (c.gather-stretch.ensures.stops c.if-stretch-gt-LARGEST.false within)
    c.gather-stretch.ensures.goes_on c.if-stretch-gt-LARGEST.false between
