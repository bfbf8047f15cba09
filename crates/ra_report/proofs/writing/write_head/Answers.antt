-- What is written are the ten lines of the journal.
use Rattle.std.proofs.Common.{rules}
use Rattle.ra_report.proofs.GatheringLemmas.{writes}
use Rattle.ra_report.proofs.ReportTexts.{head_told}
use Rattle.ra_report.proofs.writing.write_head.Goals as goal

pub returns : goal.returns
returns g c =
    rw (← head_told c.args.journal.now c.args.best.now.items c.args.parts.now c.args.bound.now _ _ _ c.requires.best
    c.requires.parts c.requires.bound c.best_at-best_at.ensures.value c.drawing-drawing.ensures c.lots.ensures.value)
    (writes g.O.Sink.taken g.O.Sink.faults c.make-text.result c.add_head.new.text c.finish.new.self
    c.make-text.ensures.same (search rules) c.make-text.ensures.sound c.make-text.ensures.none c.add_head.ensures
    c.finish.ensures.adds c.finish.ensures.none c.finish.ensures.whole c.finish.ensures.part)
