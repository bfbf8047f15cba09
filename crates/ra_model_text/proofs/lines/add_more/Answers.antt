use Rattle.std.proofs.Common.{[], ◌∷◌}
use Rattle.std.specs.Fmt.{decimal}
use Rattle.ra_report.proofs.GatheringLemmas.{adds_more}
use Rattle.ra_model_text.proofs.lines.add_more.Goals as goal

pub returns : goal.returns
returns g c = adds_more g.O.Sink.taken g.O.Sink.faults c.args.text.now c.add.new.self c.add_digits.new.text (32 ∷ [])
    (decimal c.args.number) c.add.ensures c.add_digits.ensures
