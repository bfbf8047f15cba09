use Rattle.ra_report.proofs.GatheringLemmas.{adds_more}
use Rattle.ra_model_text.proofs.ModelLines.{process_is}
use Rattle.ra_model_text.proofs.lines.add_process.Goals as goal

pub returns : goal.returns
returns g c =
    rw (process_is c.args.inst.now.tables c.args.p.0)
    (adds_more g.O.Sink.taken g.O.Sink.faults c.args.text.now c.add_digits.new.text c.add.new.self _ _
    (rw c.service_of.ensures at c.add_digits.ensures)
    (adds_more g.O.Sink.taken g.O.Sink.faults c.add_digits.new.text c.add_requirements.new.text c.add.new.self _ _
    c.add_requirements.ensures
    (adds_more g.O.Sink.taken g.O.Sink.faults c.add_requirements.new.text c.add_more.new.text c.add.new.self _ _
    (rw c.process_cost.ensures at c.add_more.ensures) c.add.ensures)))
