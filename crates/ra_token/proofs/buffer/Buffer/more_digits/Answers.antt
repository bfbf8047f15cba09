use Rattle.std.proofs.Common.{take, arith, length-take}
use Rattle.ra_token.proofs.Told.{shown_as, told_run}
use Rattle.ra_token.proofs.buffer.Buffer.more_digits.Goals as goal

pub returns-clause-goes_on : goal.returns-clause-goes_on
returns-clause-goes_on c = λ told shows.
    let w = c.args.self.now in
    told_run told (take w.filled c.deref.result.now) w.start c.args.place c.args.carried c.gather-stretch.result.end
    c.gather-stretch.result.value
    (shown_as told w.start w.filled w.bytes.items c.deref.result.now c.deref.ensures.value shows)
    (omega (arith, w.below, length-take w.filled c.deref.result.now)) c.requires.covers.low
    c.gather-stretch.ensures.goes_on
