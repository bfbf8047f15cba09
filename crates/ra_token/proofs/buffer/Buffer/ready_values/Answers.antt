use Rattle.std.proofs.Common.{◌+◌, ◌-◌, length, take, arith, length-take}
use Rattle.ra_token.specs.Values.{AddsValues}
use Rattle.ra_token.proofs.Told.{shown_as, told_in, told_still}
use Rattle.ra_token.proofs.ValueLaws.{adds_none}
use Rattle.ra_token.proofs.buffer.Buffer.ready_values.Goals as goal

pub returns-then-place-self-clause-adds : goal.returns-then-place-self-clause-adds
returns-then-place-self-clause-adds c = λ told shows.
    told_still (λ bytes. AddsValues bytes c.args.place c.args.place
    (length c.args.values.now.items - length c.args.values.now.items) c.args.values.now.items
    c.args.values.now.items)
    told c.args.place (λ bytes between. adds_none bytes c.args.place _ c.args.values.now.items (omega arith) between)

pub returns-clause-adds : goal.returns-clause-adds
returns-clause-adds c = λ told shows.
    let w = c.args.self.now in
    let before = c.args.values.now.items in
    let after = c.take_runs-end.new.values.items in
    told_in (λ bytes start place. AddsValues bytes place (start + c.take_runs-end.result) (length after - length before)
    before after)
    told (take w.filled c.deref.result.now) w.start c.args.place
    (shown_as told w.start w.filled w.bytes.items c.deref.result.now c.deref.ensures.value shows)
    (omega (arith, w.below, length-take w.filled c.deref.result.now)) c.if-place-self.false
    c.take_runs-end.ensures.adds
