use Rattle.std.proofs.Common.{◌++◌}
use Rattle.ra_report.specs.Texts.{line_end}
use Rattle.ra_jobs.specs.EditedTexts.{edit_front, reply_text, edit_line}
use Rattle.ra_report.proofs.GatheringLemmas.{adds_more}
use Rattle.ra_jobs.proofs.edited.add_edit.Goals as goal

pub returns : goal.returns
unfolding edit_line
returns g c =
    let front = edit_front c.args.place in
    let reply = reply_text c.args.reply.now in
    adds_more g.O.Sink.taken g.O.Sink.faults c.args.text.now c.add_pieces.new.text c.add.new.self front
    (reply ++ line_end) c.add_pieces.ensures
    (adds_more g.O.Sink.taken g.O.Sink.faults c.add_pieces.new.text c.add_note.new.text c.add.new.self reply line_end
    (rw c.reply_note.ensures at c.add_note.ensures) c.add.ensures)
