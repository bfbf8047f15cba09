use Rattle.ra_report.proofs.GatheringLemmas.{adds_more}
use Rattle.ra_model_text.proofs.ModelLines.{machine_is}
use Rattle.ra_model_text.proofs.lines.add_machine.Goals as goal

pub returns : goal.returns
returns g c =
    rw (machine_is c.args.inst.now.tables c.args.m.0)
    (adds_more g.O.Sink.taken g.O.Sink.faults c.args.text.now c.add_digits.new.text c.add.new.self _ _
    (rw c.neighbourhood.ensures at c.add_digits.ensures)
    (adds_more g.O.Sink.taken g.O.Sink.faults c.add_digits.new.text c.add_more.new.text c.add.new.self _ _
    (rw c.location.ensures at c.add_more.ensures)
    (adds_more g.O.Sink.taken g.O.Sink.faults c.add_more.new.text c.add_capacities.new.text c.add.new.self _ _
    c.add_capacities.ensures
    (adds_more g.O.Sink.taken g.O.Sink.faults c.add_capacities.new.text c.add_safeties.new.text c.add.new.self _ _
    c.add_safeties.ensures
    (adds_more g.O.Sink.taken g.O.Sink.faults c.add_safeties.new.text c.add_way_costs.new.text c.add.new.self _ _
    c.add_way_costs.ensures c.add.ensures)))))
