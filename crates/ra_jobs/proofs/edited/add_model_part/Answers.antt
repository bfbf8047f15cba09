use Rattle.ra_jobs.specs.EditedTexts.{model_part}
use Rattle.ra_report.proofs.GatheringLemmas.{adds_more}
use Rattle.ra_jobs.proofs.edited.add_model_part.Goals as goal

pub returns : goal.returns
unfolding model_part
returns g c = adds_more g.O.Sink.taken g.O.Sink.faults c.args.text.now c.add_pieces.new.text c.add_model.new.text
    _ _ c.add_pieces.ensures c.add_model.ensures
