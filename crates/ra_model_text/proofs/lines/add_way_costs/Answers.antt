use Rattle.ra_model_text.proofs.Chunks.{numbers_row}
use Rattle.ra_model_text.proofs.lines.add_way_costs.Goals as goal

pub returns : goal.returns
returns g c =
    rw (numbers_row _ _ _ c.ways_from.ensures.count c.ways_from.ensures.each) at c.add_numbers.ensures
