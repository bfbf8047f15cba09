use Rattle.std.proofs.Common.{codes}
use Rattle.ra_report.specs.Texts.{line_end, machines_text}
use Rattle.ra_report.proofs.GatheringLemmas.{adds_more}
use Rattle.ra_anneal.specs.Texts.{last_line}
use Rattle.ra_anneal.proofs.text.add_last.Goals as goal

pub returns : goal.returns
unfolding last_line
returns g c =
    let word = codes "last" in
    let machines = machines_text c.args.machines.now in
    adds_more g.O.Sink.taken g.O.Sink.faults c.args.text.now c.add_machines.new.text c.add_pieces-2.new.text
    _ line_end (adds_more g.O.Sink.taken g.O.Sink.faults c.args.text.now c.add_pieces.new.text c.add_machines.new.text
    word machines c.add_pieces.ensures c.add_machines.ensures) c.add_pieces-2.ensures
