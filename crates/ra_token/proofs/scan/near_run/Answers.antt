use Rattle.std.proofs.Common.{◌+◌, ◌<◌, rules, arith}
use Rattle.ra_token.proofs.Told.{next_in}
use Rattle.ra_token.proofs.InPiece.{one_blank}
use Rattle.ra_token.proofs.scan.near_run.Goals as goal

pub returns-clause-next : goal.returns-clause-next
returns-clause-next c = λ all start low is between.
    let bytes = c.args.bytes.now in
    let from = c.args.from in
    let run = c.in_ok-stretch.stretch in
    let some : from + 1 < run.end = omega (arith, c.in_ok-stretch.ensures.low) in
    next_in all bytes start from (from + 1) run.end run.value is low (omega arith) some
    (omega (arith, c.in_ok-stretch.ensures.high))
    (one_blank bytes from (search rules)) (c.in_ok-stretch.ensures.moved some) c.in_ok-stretch.ensures.stops
    (λ whole at first fits piece so_far small. c.in_ok-stretch.ensures.goes_on whole at first fits piece so_far)
    c.in_ok-stretch.ensures.small between
