use Rattle.ra_model_text.specs.Lines.{line_text, more_text}
use Rattle.ra_report.proofs.GatheringLemmas.{adds_more}
use Rattle.ra_model_text.proofs.lines.add_two.Goals as goal

pub returns : goal.returns
unfolding line_text more_text
returns g c = adds_more g.O.Sink.taken g.O.Sink.faults c.args.text.now c.add_digits.new.text c.add.new.self _ _
    c.add_digits.ensures
    (adds_more g.O.Sink.taken g.O.Sink.faults c.add_digits.new.text c.add_more.new.text c.add.new.self _ _
    c.add_more.ensures c.add.ensures)
