use Rattle.std.proofs.Common.{codes}
use Rattle.ra_report.specs.Texts.{line_end, machines_text}
use Rattle.ra_jobs.specs.EditedTexts.{initial_line}
use Rattle.ra_report.proofs.GatheringLemmas.{adds_more}
use Rattle.ra_jobs.proofs.edited.add_initial.Goals as goal

pub returns : goal.returns
unfolding initial_line
returns g c =
    let word = codes "initial" in
    let machines = machines_text c.args.machines.now in
    adds_more g.O.Sink.taken g.O.Sink.faults c.args.text.now c.add.new.self c.add-2.new.self word _
    c.add.ensures
    (adds_more g.O.Sink.taken g.O.Sink.faults c.add.new.self c.add_machines.new.text c.add-2.new.self machines line_end
    c.add_machines.ensures c.add-2.ensures)
