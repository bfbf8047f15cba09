use Rattle.ra_report.specs.Notes.{note_text}
use Rattle.std.proofs.lemmas.List.{append-nil}
use Rattle.ra_report.proofs.GatheringLemmas.{adds_none, adds_more}
use Rattle.ra_report.proofs.notes.add_note.Goals as goal

pub returns-in-Nothing : goal.returns-in-Nothing
unfolding note_text
returns-in-Nothing g c = rw c.in-Nothing.is (adds_none g.O.Sink.taken g.O.Sink.faults c.args.text.now)

pub returns-in-Cause : goal.returns-in-Cause
unfolding note_text
returns-in-Cause g c =
    rw c.in-Cause.is
    (adds_more g.O.Sink.taken g.O.Sink.faults c.args.text.now c.add_pieces-in-Cause.new.text c.add_cause.new.text
    c.in-Cause.words.now _ (rw append-nil at c.add_pieces-in-Cause.ensures)
    c.add_cause.ensures)
