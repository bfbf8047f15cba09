use Rattle.std.proofs.Common.{◌≡◌, get_or, rules}
use Rattle.ra_report.proofs.GatheringLemmas.{adds_none}
use Rattle.ra_report.proofs.ShareLaws.{adds_joined}
use Rattle.ra_report.proofs.desks.add_desks.Goals as goal

pub loop-desk-init : goal.loop-desk-init
loop-desk-init g c = adds_none g.O.Sink.taken g.O.Sink.faults c.args.text.now

pub loop-desk-preserved : goal.loop-desk-preserved
loop-desk-preserved g c =
    let desks = c.args.desks.now in
    let place = c.loop-desk.desk-index in
    let piece : c.as_slice.result.now ≡ get_or desks place c.desk-item.result = search rules in
    adds_joined g.O.Sink.taken g.O.Sink.faults desks place c.desk-item.result c.args.text.now c.loop-desk.text
    c.add.new.self c.loop-desk-test.true c.loop-desk.invariant (rw piece at c.add.ensures)
