use Rattle.ra_report.proofs.GatheringLemmas.{adds_more}
use Rattle.ra_model_text.proofs.ModelLines.{service_is}
use Rattle.ra_model_text.proofs.lines.add_service.Goals as goal

pub returns : goal.returns
returns g c =
    rw (service_is c.args.inst.now.tables c.args.s.0)
    (adds_more g.O.Sink.taken g.O.Sink.faults c.args.text.now c.add_digits.new.text c.add.new.self _ _
    (rw c.spread_min.ensures at c.add_digits.ensures)
    (adds_more g.O.Sink.taken g.O.Sink.faults c.add_digits.new.text c.add_more.new.text c.add.new.self _ _
    (rw c.depends.ensures.count at c.add_more.ensures)
    (adds_more g.O.Sink.taken g.O.Sink.faults c.add_more.new.text c.add_needs.new.text c.add.new.self _ _
    c.add_needs.ensures c.add.ensures)))
