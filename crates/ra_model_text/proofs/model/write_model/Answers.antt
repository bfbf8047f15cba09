use Rattle.std.proofs.Common.{rules}
use Rattle.ra_report.proofs.GatheringLemmas.{put_whole, put_part}
use Rattle.ra_model_text.proofs.model.write_model.Goals as goal

pub returns-clause-whole : goal.returns-clause-whole
returns-clause-whole g c = put_whole g.O.Sink.taken g.O.Sink.faults _ _ c.make-text.result c.add_model.new.text
    c.finish.new.self _ c.finish.result c.make-text.ensures.same (search rules) c.make-text.ensures.sound
    c.make-text.ensures.none c.add_model.ensures c.finish.ensures.adds c.finish.ensures.none c.finish.ensures.whole

pub returns-clause-part : goal.returns-clause-part
returns-clause-part g c = put_part g.O.Sink.taken g.O.Sink.faults _ _ c.make-text.result c.add_model.new.text
    c.finish.new.self _ c.finish.result c.make-text.ensures.same (search rules) c.make-text.ensures.sound
    c.make-text.ensures.none c.add_model.ensures c.finish.ensures.adds c.finish.ensures.part
