use Rattle.std.proofs.Common.{◌++◌}
use Rattle.ra_report.specs.Texts.{parts_text, assignment_line}
use Rattle.ra_report.proofs.GatheringLemmas.{adds_more}
use Rattle.ra_anneal.specs.Texts.{annealed_text, last_line, told_text}
use Rattle.ra_anneal.proofs.text.add_annealed.Goals as goal

pub returns : goal.returns
unfolding annealed_text
returns g c =
    let told = c.args.told.now in
    let parts = parts_text c.args.parts.now in
    let four = told_text c.args.bound_total told.heat told.tries told.done in
    let best = assignment_line c.args.best.now.items in
    let last = last_line c.args.last.now.items in
    let two = adds_more g.O.Sink.taken g.O.Sink.faults c.args.text.now c.add_parts.new.text c.add_told.new.text
    parts four c.add_parts.ensures c.add_told.ensures in
    let three = adds_more g.O.Sink.taken g.O.Sink.faults c.args.text.now c.add_told.new.text c.add_assignment.new.text
    (parts ++ four) best two (rw c.as_slice.ensures at c.add_assignment.ensures) in
    adds_more g.O.Sink.taken g.O.Sink.faults c.args.text.now c.add_assignment.new.text c.add_last.new.text
    (parts ++ four ++ best) last three (rw c.as_slice-2.ensures at c.add_last.ensures)
