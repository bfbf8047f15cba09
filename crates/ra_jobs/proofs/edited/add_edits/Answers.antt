use Rattle.std.proofs.Common.{arith}
use Rattle.ra_jobs.specs.EditedTexts.{edits_text}
use Rattle.ra_report.proofs.GatheringLemmas.{adds_none}
use Rattle.ra_jobs.proofs.EditedTexts.{adds_edit, reply_read}
use Rattle.ra_jobs.proofs.edited.add_edits.Goals as goal

pub loop-place-init : goal.loop-place-init
unfolding edits_text
loop-place-init g c = adds_none g.O.Sink.taken g.O.Sink.faults c.args.text.now

pub loop-place-preserved : goal.loop-place-preserved
loop-place-preserved g c =
    let read = reply_read c.args.replies.now.items c.loop-place.place c.get-reply.result (omega arith)
    c.get-reply.ensures in
    adds_edit g.O.Sink.taken g.O.Sink.faults c.args.replies.now.items c.loop-place.place c.args.text.now
    c.loop-place.text c.add_edit.new.text c.loop-place.invariant (rw (← read) c.add_edit.ensures)
