use Rattle.std.proofs.Common.{rules}
use Rattle.ra_report.proofs.GatheringLemmas.{put_whole, put_part}
use Rattle.ra_jobs.proofs.EditedTexts.{edited_told}
use Rattle.ra_jobs.proofs.edited.write_edited.Goals as goal

pub returns-clause-whole : goal.returns-clause-whole
returns-clause-whole g c =
    rw (edited_told _ _ _ _ _ c.requires)
    (put_whole g.O.Sink.taken g.O.Sink.faults _ _ c.make-text.result c.add_edited.new.text c.finish.new.self _
    c.finish.result c.make-text.ensures.same (search rules) c.make-text.ensures.sound c.make-text.ensures.none
    c.add_edited.ensures c.finish.ensures.adds c.finish.ensures.none c.finish.ensures.whole)

pub returns-clause-part : goal.returns-clause-part
returns-clause-part g c =
    rw (edited_told _ _ _ _ _ c.requires)
    (put_part g.O.Sink.taken g.O.Sink.faults _ _ c.make-text.result c.add_edited.new.text c.finish.new.self _
    c.finish.result c.make-text.ensures.same (search rules) c.make-text.ensures.sound c.make-text.ensures.none
    c.add_edited.ensures c.finish.ensures.adds c.finish.ensures.part)
