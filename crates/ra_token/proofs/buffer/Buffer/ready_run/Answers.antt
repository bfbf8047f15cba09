use Rattle.std.proofs.Common.{◌+◌, take, arith, length-take}
use Rattle.ra_token.specs.Scan.{IsNext}
use Rattle.ra_token.proofs.Told.{shown_as, told_in}
use Rattle.ra_token.proofs.buffer.Buffer.ready_run.Goals as goal

pub returns-clause-next : goal.returns-clause-next
returns-clause-next c = λ told shows.
    let w = c.args.self.now in
    told_in (λ bytes start place. IsNext bytes place (start + c.in-Some.first) (start + c.in-Some.stretch.end)
    c.in-Some.stretch.value)
    told (take w.filled c.deref.result.now) w.start c.args.place
    (shown_as told w.start w.filled w.bytes.items c.deref.result.now c.deref.ensures.value shows)
    (omega (arith, w.below, length-take w.filled c.deref.result.now)) c.if-place-self.false
    c.in-Some.ensures.next
