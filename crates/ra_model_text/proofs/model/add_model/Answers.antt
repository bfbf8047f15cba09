use Rattle.ra_model_text.specs.ModelTexts.{weights_text, model_text}
use Rattle.ra_report.proofs.GatheringLemmas.{adds_more}
use Rattle.ra_model_text.proofs.model.add_model.Goals as goal

pub returns : goal.returns
unfolding model_text weights_text
returns g c =
    adds_more g.O.Sink.taken g.O.Sink.faults c.args.text.now c.add_resources.new.text c.add_three.new.text _ _
    c.add_resources.ensures
    (adds_more g.O.Sink.taken g.O.Sink.faults c.add_resources.new.text c.add_machines.new.text c.add_three.new.text _ _
    c.add_machines.ensures
    (adds_more g.O.Sink.taken g.O.Sink.faults c.add_machines.new.text c.add_services.new.text c.add_three.new.text _ _
    c.add_services.ensures
    (adds_more g.O.Sink.taken g.O.Sink.faults c.add_services.new.text c.add_processes.new.text c.add_three.new.text _ _
    c.add_processes.ensures
    (adds_more g.O.Sink.taken g.O.Sink.faults c.add_processes.new.text c.add_balances.new.text c.add_three.new.text _ _
    c.add_balances.ensures
    (rw (c.process_weight.ensures, c.service_weight.ensures, c.machine_weight.ensures) at c.add_three.ensures)))))
