-- What is written is the report of the journal: its head, and the lines of its entries.
use Rattle.std.proofs.Common.{rules}
use Rattle.ra_report.proofs.GatheringLemmas.{adds_more, writes}
use Rattle.ra_report.specs.JournalTexts.{head_text, report_lines}
use Rattle.ra_report.proofs.ReportTexts.{report_told}
use Rattle.ra_report.proofs.writing.write_report_at.Goals as goal

pub returns : goal.returns
unfolding report_lines
returns g c =
    let h = c.entries-entries.result.now.items in
    let added = adds_more g.O.Sink.taken g.O.Sink.faults c.make-text.result c.add_head.new.text
    c.add_entries_at.new.text (head_text c.args.parts.now c.args.bound.now.total c.best_at-best_at.result c.args.best.now.items
    c.drawing-drawing.result) _ c.add_head.ensures c.add_entries_at.ensures in
    rw (← report_told c.args.journal.now c.args.best.now.items c.args.parts.now c.args.bound.now _ _ _ _ c.requires.best
    c.requires.parts c.requires.bound c.best_at-best_at.ensures.value c.drawing-drawing.ensures c.lots.ensures.value
    c.entries-entries.ensures.items)
    (writes g.O.Sink.taken g.O.Sink.faults c.make-text.result c.add_entries_at.new.text c.finish.new.self
    c.make-text.ensures.same (search rules) c.make-text.ensures.sound c.make-text.ensures.none added
    c.finish.ensures.adds c.finish.ensures.none c.finish.ensures.whole c.finish.ensures.part)
