use Rattle.std.proofs.Common.{length}
use Rattle.ra_report.specs.JournalTexts.{head_text, entries_text, report_lines}
use Rattle.ra_report.proofs.GatheringLemmas.{adds_more}
use Rattle.ra_report.proofs.solved.add_report.Goals as goal

pub returns : goal.returns
unfolding report_lines
returns g c =
    let entries = entries_text c.args.entries.now.items (length c.args.entries.now.items) in
    adds_more g.O.Sink.taken g.O.Sink.faults c.args.text.now c.add_head.new.text c.add_entries.new.text (head_text c.args.parts.now c.args.bound.now.total c.args.best_at c.args.best.now.items c.args.drawing) entries
    c.add_head.ensures c.add_entries.ensures
