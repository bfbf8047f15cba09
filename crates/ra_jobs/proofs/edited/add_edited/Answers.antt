use Rattle.std.proofs.Common.{◌++◌}
use Rattle.ra_report.specs.Texts.{parts_text, assignment_line}
use Rattle.ra_jobs.specs.EditedTexts.{initial_line, edits_text, model_part, edited_lines}
use Rattle.ra_report.proofs.GatheringLemmas.{adds_more}
use Rattle.ra_jobs.proofs.edited.add_edited.Goals as goal

pub returns : goal.returns
unfolding edited_lines
returns g c =
    let head = parts_text c.args.parts.now in
    let first = initial_line c.args.edited.now.initial.items in
    let listed = assignment_line c.args.edited.now.current.items in
    let lines = edits_text c.args.replies.now.items _ in
    let model = model_part c.args.edited.now.instance.tables in
    adds_more g.O.Sink.taken g.O.Sink.faults c.args.text.now c.add_parts.new.text c.add_model_part.new.text head
    (first ++ (listed ++ (lines ++ model))) c.add_parts.ensures
    (adds_more g.O.Sink.taken g.O.Sink.faults c.add_parts.new.text c.add_initial.new.text c.add_model_part.new.text
    first (listed ++ (lines ++ model)) (rw c.as_slice.ensures at c.add_initial.ensures)
    (adds_more g.O.Sink.taken g.O.Sink.faults c.add_initial.new.text c.add_assignment.new.text c.add_model_part.new.text
    listed (lines ++ model) (rw c.as_slice-2.ensures at c.add_assignment.ensures)
    (adds_more g.O.Sink.taken g.O.Sink.faults c.add_assignment.new.text c.add_edits.new.text c.add_model_part.new.text
    lines model c.add_edits.ensures c.add_model_part.ensures)))
