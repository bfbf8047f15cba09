use Rattle.std.proofs.Common.{codes}
use Rattle.ra_report.specs.Texts.{number_line}
use Rattle.ra_report.specs.JournalTexts.{outcome_text, assignment_line, drawing_number, head_text}
use Rattle.ra_report.proofs.GatheringLemmas.{adds_more}
use Rattle.ra_report.proofs.solved.add_head.Goals as goal

pub returns : goal.returns
unfolding head_text
returns g c =
    let outcome = outcome_text c.args.parts.now c.args.bound_total c.args.best_at in
    let assignment = assignment_line c.args.best.now.items in
    let two = adds_more g.O.Sink.taken g.O.Sink.faults c.args.text.now c.add_outcome.new.text c.add_assignment.new.text
    outcome assignment c.add_outcome.ensures (rw c.as_slice.ensures at c.add_assignment.ensures) in
    adds_more g.O.Sink.taken g.O.Sink.faults c.args.text.now c.add_assignment.new.text c.add_number.new.text
    _ (number_line (codes "draws") (drawing_number c.args.drawing)) two (rw c.drawing_number.ensures at c.add_number.ensures)
