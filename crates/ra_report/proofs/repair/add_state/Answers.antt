use Rattle.ra_report.specs.Texts.{line_end}
use Rattle.ra_report.specs.RepairTexts.{state_line}
use Rattle.ra_report.proofs.GatheringLemmas.{adds_more}
use Rattle.ra_report.proofs.repair.add_state.Goals as goal

pub returns : goal.returns
unfolding state_line
returns g c = adds_more g.O.Sink.taken g.O.Sink.faults c.args.text.now c.add_note.new.text c.add.new.self
    _ line_end (rw c.state_note.ensures at c.add_note.ensures) c.add.ensures
