use Rattle.std.proofs.Common.{◌++◌, codes}
use Rattle.ra_report.specs.Texts.{number_line, parts_text}
use Rattle.ra_report.proofs.GatheringLemmas.{adds_more}
use Rattle.ra_report.proofs.solved.add_outcome.Goals as goal

pub returns : goal.returns
returns g c =
    let parts = parts_text c.args.parts.now in
    let bound = number_line (codes "bound") c.args.bound_total in
    let two = adds_more g.O.Sink.taken g.O.Sink.faults c.args.text.now c.add_parts.new.text c.add_number.new.text parts
    bound c.add_parts.ensures c.add_number.ensures in
    adds_more g.O.Sink.taken g.O.Sink.faults c.args.text.now c.add_number.new.text c.add_number-2.new.text
    (parts ++ bound) (number_line (codes "best_at") c.args.best_at) two c.add_number-2.ensures
