use Rattle.std.proofs.Common.{rules}
use Rattle.ra_report.proofs.GatheringLemmas.{writes}
use Rattle.ra_anneal.proofs.text.write_annealed.Goals as goal

pub returns : goal.returns
returns g c = writes g.O.Sink.taken g.O.Sink.faults c.make-text.result c.add_annealed.new.text c.finish.new.self
    c.make-text.ensures.same (search rules) c.make-text.ensures.sound c.make-text.ensures.none c.add_annealed.ensures
    c.finish.ensures.adds c.finish.ensures.none c.finish.ensures.whole c.finish.ensures.part
