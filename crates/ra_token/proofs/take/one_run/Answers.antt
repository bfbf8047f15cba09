use Rattle.std.proofs.Common.{◌+◌, arith}
use Rattle.ra_token.proofs.Taking.{takes_none, takes_one}
use Rattle.ra_token.proofs.take.one_run.Goals as goal

pub returns-in_default : goal.returns-in_default
returns-in_default c = takes_none c.args.bytes.now c.args.from 1 c.args.values.now c.requires.within

pub returns : goal.returns
returns c =
    takes_one c.args.bytes.now c.args.from (c.args.from + 1) c.in-Some.stretch.end c.in-Some.stretch.value
    c.args.values.now c.push.new.self
    (omega (arith, c.in-Some.ensures.low)) (omega (arith, c.in-Some.ensures.within)) c.push.ensures.items
    c.push.ensures.room c.in-Some.ensures.next
