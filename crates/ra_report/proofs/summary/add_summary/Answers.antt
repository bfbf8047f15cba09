use Rattle.std.proofs.Common.{codes}
use Rattle.ra_report.specs.Texts.{number_line}
use Rattle.ra_report.specs.JournalTexts.{outcome_text}
use Rattle.ra_report.specs.Summaries.{done_count, refused_count, summary_lines}
use Rattle.ra_report.proofs.Counts.{others}
use Rattle.ra_report.proofs.GatheringLemmas.{adds_more}
use Rattle.ra_report.proofs.summary.add_summary.Goals as goal

pub returns : goal.returns
unfolding summary_lines
returns g c =
    let h = c.args.entries.now.items in
    let outcome = outcome_text c.args.parts.now c.args.bound_total c.args.best_at in
    let done = number_line (codes "done") (done_count h) in
    let two = adds_more g.O.Sink.taken g.O.Sink.faults c.args.text.now c.add_outcome.new.text c.add_number.new.text
    outcome done c.add_outcome.ensures (rw c.count_done-done.ensures.value at c.add_number.ensures) in
    adds_more g.O.Sink.taken g.O.Sink.faults c.args.text.now c.add_number.new.text c.add_number-2.new.text
    _ (number_line (codes "refused") (refused_count h)) two
    (rw (c.len.ensures.value, others h c.count_done-done.result c.count_done-done.ensures.value) at
    c.add_number-2.ensures)
