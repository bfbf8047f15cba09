-- What is written is the summary of the journal.
use Rattle.std.proofs.Common.{rules}
use Rattle.ra_report.proofs.GatheringLemmas.{writes}
use Rattle.ra_report.proofs.ReportTexts.{summary_told}
use Rattle.ra_report.proofs.writing.write_summary.Goals as goal

pub returns : goal.returns
returns g c =
    rw (← summary_told c.args.journal.now c.args.parts.now c.args.bound.now _ _ c.requires.parts c.requires.bound
    c.best_at-best_at.ensures.value c.entries-entries.ensures.items)
    (writes g.O.Sink.taken g.O.Sink.faults c.make-text.result c.add_summary.new.text c.finish.new.self
    c.make-text.ensures.same (search rules) c.make-text.ensures.sound c.make-text.ensures.none c.add_summary.ensures
    c.finish.ensures.adds c.finish.ensures.none c.finish.ensures.whole c.finish.ensures.part)
