use Rattle.std.proofs.Common.{take, arith, length-take}
use Rattle.ra_token.proofs.Told.{shown_as, told_reached}
use Rattle.ra_token.proofs.buffer.Buffer.past_blanks.Goals as goal

pub returns-clause-reached : goal.returns-clause-reached
returns-clause-reached c = λ told shows.
    let w = c.args.self.now in
    told_reached told (take w.filled c.deref.result.now) w.start c.args.place c.skip_blanks-index.result
    (shown_as told w.start w.filled w.bytes.items c.deref.result.now c.deref.ensures.value shows)
    (omega (arith, w.below, length-take w.filled c.deref.result.now)) c.requires.low
    c.skip_blanks-index.ensures.low c.skip_blanks-index.ensures.high c.skip_blanks-index.ensures.blanks
