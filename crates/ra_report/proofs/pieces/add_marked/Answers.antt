use Rattle.std.proofs.Common.{[], ◌∷◌}
use Rattle.ra_report.proofs.GatheringLemmas.{adds_more}
use Rattle.ra_report.proofs.pieces.add_marked.Goals as goal

pub returns : goal.returns
returns g c = adds_more g.O.Sink.taken g.O.Sink.faults c.args.text.now c.add.new.self c.add_decimal.new.text
    (c.args.mark ∷ []) _ c.add.ensures c.add_decimal.ensures
